use Rattle.std.proofs.Common.{w64, refl, sym, zero-add}
use Rattle.std.proofs.lemmas.Int.{to_z-of_z}
use Rattle.leg_flat.proofs.MoreMetal.{adds_none, adds_one, adds_more, adds_all}
use Rattle.leg_flat.proofs.MetalWalks.{drawn_metal, drawn_walk}
use Rattle.leg_flat.proofs.metal_parts.add_drawn.Goals as goal

pub loop-shape-init : goal.loop-shape-init
loop-shape-init g c = adds_none c.args.shapes.now.items

pub loop-shape-preserved : goal.loop-shape-preserved
loop-shape-preserved g c =
    let width = to_z-of_z w64 c.args.width c.ranges.width in
    let height = to_z-of_z w64 c.args.height c.ranges.height in
    let before = rw (width, height) at c.loop-shape.invariant in
    rw (width, height)
    (adds_more (drawn_metal c.args.place.now (record { width = c.args.width; height = c.args.height }) c.args.belongs.now) 0 c.args.box_shapes.now
    c.args.shapes.now.items c.loop-shape.shape-index _ c.shape-item.result c.loop-shape.shapes.items _
    (sym (zero-add _)) c.loop-shape-test.true c.shape-item.is before
    (adds_one _ _ _ _ c.in_ok-add_shape.ensures (record {
      layer = refl;
      proper = c.drawn_rect-rect.ensures.proper;
      points = rw (width, height) at c.drawn_rect-rect.ensures.points;
      owner = refl;
      component = refl;
      piece = refl;
    })))

pub returns : goal.returns
returns g c =
    let before = rw (to_z-of_z w64 c.args.width c.ranges.width, to_z-of_z w64 c.args.height c.ranges.height) at c.loop-shape.invariant in
    adds_all (drawn_metal c.args.place.now (record { width = c.args.width; height = c.args.height }) c.args.belongs.now) 0 c.args.box_shapes.now
    c.args.shapes.now.items c.loop-shape.shape-index c.loop-shape.shapes.items _ c.loop-shape-test.false (drawn_walk _ _ _ _) before
