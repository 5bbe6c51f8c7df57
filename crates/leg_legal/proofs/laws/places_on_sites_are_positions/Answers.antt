use Rattle.leg_legal.proofs.FreePlaces.{free_places}
use Rattle.leg_legal.proofs.laws.places_on_sites_are_positions.Goals as goal

pub returns : goal.returns
returns c = free_places
