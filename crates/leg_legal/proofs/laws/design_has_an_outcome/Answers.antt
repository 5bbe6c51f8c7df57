use Rattle.leg_legal.proofs.Outcomes.{outcome}
use Rattle.leg_legal.proofs.laws.design_has_an_outcome.Goals as goal

pub returns : goal.returns
returns g c = λ design proper sound sized. outcome design proper sound sized
