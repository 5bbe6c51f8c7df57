use Rattle.std.proofs.Common.{refl}
use Rattle.std.proofs.lemmas.Result.{on_ok_weaker}
use Rattle.leg_flat.proofs.MoreMetal.{adds_one}
use Rattle.leg_flat.proofs.Registers.{segment_adds}
use Rattle.leg_flat.proofs.metal_wires.add_wire.Goals as goal

pub returns-in-Segment : goal.returns-in-Segment
returns-in-Segment g c =
    let within = rw c.in-Segment.is at c.requires.within in
    rw c.in-Segment.is
    (on_ok_weaker c.add_shape.result (λ grown. segment_adds c.args.design.now c.in-Segment.layer c.in-Segment.from c.in-Segment.to c.in-Segment.width
    c.in-Segment.ext_from c.in-Segment.ext_to c.args.belongs.now c.args.shapes.now.items c.add_shape.new.shapes.items c.line_rect-rect.result
    c.line_rect-rect.ensures.proper within c.line_rect-rect.ensures.points grown) c.add_shape.ensures)

pub returns-in-Patch : goal.returns-in-Patch
returns-in-Patch g c =
    rw c.in-Patch.is
    (on_ok_weaker c.add_shape-in-Patch.result (λ grown. adds_one _ c.args.shapes.now.items c.add_shape-in-Patch.new.shapes.items _ grown
    (record { layer = refl; proper = c.shifted_rect.ensures.proper; points = c.shifted_rect.ensures.points; owner = refl; component = refl; piece = refl }))
    c.add_shape-in-Patch.ensures)
