use Rattle.leg_route_laws.proofs.WiresClean.{clean_wire_stays}
use Rattle.leg_route_laws.proofs.laws.clean_wire_stays_clean.Goals as goal

pub returns : goal.returns
returns c = clean_wire_stays
