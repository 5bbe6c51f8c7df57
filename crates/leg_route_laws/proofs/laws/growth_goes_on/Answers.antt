use Rattle.leg_route_laws.proofs.Growth.{grows_then}
use Rattle.leg_route_laws.proofs.laws.growth_goes_on.Goals as goal

pub returns : goal.returns
returns c = grows_then
