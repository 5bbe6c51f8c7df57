use Rattle.leg_route_laws.proofs.ByNet.{by_net_none}
use Rattle.leg_route_laws.proofs.laws.no_wires_by_net.Goals as goal

pub returns : goal.returns
returns c = by_net_none
