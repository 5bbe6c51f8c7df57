use Rattle.leg_rules.specs.Joins.Touch.{Touch}
use Rattle.leg_wire.proofs.JoinedLaws.{Joined-onward}
use Rattle.leg_wire.proofs.laws.joined_onward.Goals as goal

pub returns : goal.returns
returns c = λ flat net a b d first second. Joined-onward (Touch flat net) a b d first second
