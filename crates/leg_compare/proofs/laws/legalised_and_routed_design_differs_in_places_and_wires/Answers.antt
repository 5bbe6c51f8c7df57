use Rattle.leg_compare.proofs.MovedAndGrown.{places_and_wires_differ}
use Rattle.leg_compare.proofs.laws.legalised_and_routed_design_differs_in_places_and_wires.Goals as goal

pub returns : goal.returns
returns c = places_and_wires_differ
