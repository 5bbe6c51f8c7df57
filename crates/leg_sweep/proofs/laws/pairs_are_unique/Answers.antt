use Rattle.leg_sweep.proofs.Unique.{ArePairs-unique}
use Rattle.leg_sweep.proofs.laws.pairs_are_unique.Goals as goal

pub returns : goal.returns
returns g c = λ rule items found other are others. ArePairs-unique (g.R.PairRule.Holds rule) items found other are others
