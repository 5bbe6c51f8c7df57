use Rattle.leg_route.proofs.RunFacts.{run_clean}
use Rattle.leg_route.proofs.laws.runs_stay_clean.Goals as goal

pub returns : goal.returns
returns c = λ design flat grown added sound clean run.
    run_clean c.run_of_clean_wires_is_clean.ensures c.clean_wires_stay_clean.ensures design flat grown added sound clean run
