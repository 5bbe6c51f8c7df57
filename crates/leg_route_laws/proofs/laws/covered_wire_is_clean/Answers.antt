use Rattle.leg_route_laws.proofs.CleanCover.{clean_wire}
use Rattle.leg_route_laws.proofs.laws.covered_wire_is_clean.Goals as goal

pub returns : goal.returns
returns c = clean_wire
