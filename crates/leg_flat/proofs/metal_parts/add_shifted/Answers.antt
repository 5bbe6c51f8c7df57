use Rattle.std.proofs.Common.{refl, sym, zero-add}
use Rattle.leg_flat.proofs.MoreMetal.{adds_none, adds_one, adds_more, adds_all}
use Rattle.leg_flat.proofs.MetalWalks.{shifted_metal, shifted_walk}
use Rattle.leg_flat.proofs.metal_parts.add_shifted.Goals as goal

pub loop-shape-init : goal.loop-shape-init
loop-shape-init g c = adds_none c.args.shapes.now.items

pub loop-shape-preserved : goal.loop-shape-preserved
loop-shape-preserved g c =
    adds_more (shifted_metal c.args.at.now c.args.belongs.now) 0 c.args.point_shapes.now c.args.shapes.now.items c.loop-shape.shape-index _
    c.shape-item.result c.loop-shape.shapes.items _ (sym (zero-add _)) c.loop-shape-test.true c.shape-item.is c.loop-shape.invariant
    (adds_one _ _ _ _ c.in_ok-add_shape.ensures (record {
      layer = refl;
      proper = c.shifted_rect-rect.ensures.proper;
      points = c.shifted_rect-rect.ensures.points;
      owner = refl;
      component = refl;
      piece = refl;
    }))

pub returns : goal.returns
returns g c =
    adds_all (shifted_metal c.args.at.now c.args.belongs.now) 0 c.args.point_shapes.now c.args.shapes.now.items c.loop-shape.shape-index
    c.loop-shape.shapes.items _ c.loop-shape-test.false (shifted_walk _ _ _) c.loop-shape.invariant
