use Rattle.leg_route_laws.proofs.RunClean.{run_of_wires}
use Rattle.leg_route_laws.proofs.laws.run_of_clean_wires_is_clean.Goals as goal

pub returns : goal.returns
returns c = run_of_wires
