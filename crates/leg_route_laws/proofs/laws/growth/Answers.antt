use Rattle.leg_route_laws.proofs.Growth.{has_grown}
use Rattle.leg_route_laws.proofs.laws.growth.Goals as goal

pub returns : goal.returns
returns c = has_grown
