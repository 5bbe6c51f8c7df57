use Rattle.leg_route_laws.proofs.RunClean.{run_wire}
use Rattle.leg_route_laws.proofs.laws.run_of_clean_steps_is_clean.Goals as goal

pub returns : goal.returns
returns c = run_wire
