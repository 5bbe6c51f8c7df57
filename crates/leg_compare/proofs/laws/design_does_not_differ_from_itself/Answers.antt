use Rattle.leg_compare.proofs.MovedAndGrown.{never_from_itself}
use Rattle.leg_compare.proofs.laws.design_does_not_differ_from_itself.Goals as goal

pub returns : goal.returns
returns c = never_from_itself
