use Rattle.leg_route_laws.proofs.ByNet.{by_net_more}
use Rattle.leg_route_laws.proofs.laws.more_wires_by_net.Goals as goal

pub returns : goal.returns
returns c = by_net_more
