use Rattle.leg_flat.proofs.MetalSources.{metal_source}
use Rattle.leg_flat.proofs.laws.metal_has_a_source.Goals as goal

pub returns : goal.returns
returns c = metal_source
