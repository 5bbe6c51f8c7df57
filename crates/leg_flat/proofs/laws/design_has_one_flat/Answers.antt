use Rattle.leg_flat.proofs.OneFlat.{one_flat}
use Rattle.leg_flat.proofs.laws.design_has_one_flat.Goals as goal

pub returns : goal.returns
returns c = one_flat
