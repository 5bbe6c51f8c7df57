use Rattle.leg_wire.proofs.JoinedLaws.{AreJoined-symmetric}
use Rattle.leg_wire.proofs.laws.joined_both_ways.Goals as goal

pub returns : goal.returns
returns c = AreJoined-symmetric
