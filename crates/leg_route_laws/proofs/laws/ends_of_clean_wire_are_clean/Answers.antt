use Rattle.leg_route_laws.proofs.RunClean.{ends_clean}
use Rattle.leg_route_laws.proofs.laws.ends_of_clean_wire_are_clean.Goals as goal

pub returns : goal.returns
returns c = ends_clean
