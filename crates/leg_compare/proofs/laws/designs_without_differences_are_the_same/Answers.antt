use Rattle.leg_compare.proofs.SameByName.{same_without_difference}
use Rattle.leg_compare.proofs.laws.designs_without_differences_are_the_same.Goals as goal

pub returns : goal.returns
returns c = same_without_difference
