use Rattle.leg_legal.proofs.OneOutcome.{no_outcome}
use Rattle.leg_legal.proofs.laws.refused_design_is_not_legalised.Goals as goal

pub returns : goal.returns
returns g c = λ design after. no_outcome design after c.args.fault.now
