use Rattle.leg_route_laws.proofs.WiresClean.{clean_wires_stay}
use Rattle.leg_route_laws.proofs.laws.clean_wires_stay_clean.Goals as goal

pub returns : goal.returns
returns c = λ design net wires old new none clean grows. clean_wires_stay design net wires old clean new none grows
