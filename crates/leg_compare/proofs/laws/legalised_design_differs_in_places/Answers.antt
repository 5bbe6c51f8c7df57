use Rattle.leg_compare.proofs.MovedPlaces.{places_differ}
use Rattle.leg_compare.proofs.laws.legalised_design_differs_in_places.Goals as goal

pub returns : goal.returns
returns c = places_differ
