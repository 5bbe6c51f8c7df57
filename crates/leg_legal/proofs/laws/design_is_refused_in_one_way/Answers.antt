use Rattle.leg_legal.proofs.OneOutcome.{one_cause}
use Rattle.leg_legal.proofs.laws.design_is_refused_in_one_way.Goals as goal

pub returns : goal.returns
returns g c = λ design. one_cause design c.args.fault.now c.args.other.now
