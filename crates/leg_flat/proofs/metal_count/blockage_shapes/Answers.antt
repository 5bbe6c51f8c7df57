use Rattle.std.proofs.Common.{length, Some, sym, ap, ◌∙◌}
use Rattle.leg_flat.proofs.ShapeCounts.{blockage_count}
use Rattle.leg_flat.proofs.metal_count.blockage_shapes.Goals as goal

pub returns-in-LayerRects : goal.returns-in-LayerRects
returns-in-LayerRects g c = rw c.in-LayerRects.is (λ k. ap length c.as_slice.ensures ∙ sym (blockage_count k (Some _) _))
