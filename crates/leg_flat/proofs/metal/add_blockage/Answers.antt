use Rattle.leg_flat.proofs.MoreMetal.{adds_none}
use Rattle.leg_flat.proofs.metal.add_blockage.Goals as goal

pub add_rects-requires : goal.add_rects-requires
add_rects-requires g c = rw (c.as_slice.ensures) (rw c.in-LayerRects.is at c.requires)

pub returns-in-LayerRects : goal.returns-in-LayerRects
returns-in-LayerRects g c = rw c.in-LayerRects.is (rw c.as_slice.ensures at c.add_rects.ensures)

pub returns-in-Placement : goal.returns-in-Placement
returns-in-Placement g c = rw c.in-Placement.is (adds_none c.args.shapes.now.items)
