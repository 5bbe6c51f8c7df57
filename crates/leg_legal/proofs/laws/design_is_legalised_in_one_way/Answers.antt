use Rattle.leg_legal.proofs.OneOutcome.{one_design}
use Rattle.leg_legal.proofs.laws.design_is_legalised_in_one_way.Goals as goal

pub returns : goal.returns
returns c = one_design
