use Rattle.leg_route.proofs.RunFacts.{no_wires_for}
use Rattle.leg_route.proofs.laws.joined_nets_get_no_wires.Goals as goal

pub returns : goal.returns
returns c = no_wires_for
