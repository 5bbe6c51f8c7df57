use Rattle.leg_route_laws.proofs.CleanCover.{covered}
use Rattle.leg_route_laws.proofs.laws.covered_is_clean.Goals as goal

pub returns : goal.returns
returns c = covered
