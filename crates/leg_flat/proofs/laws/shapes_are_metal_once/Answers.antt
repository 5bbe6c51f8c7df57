use Rattle.leg_flat.proofs.ShapeCounts.{metal_count}
use Rattle.leg_flat.proofs.laws.shapes_are_metal_once.Goals as goal

pub returns : goal.returns
returns c = metal_count
