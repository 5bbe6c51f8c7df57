use Rattle.leg_legal.proofs.FreePlaces.{no_free_place}
use Rattle.leg_legal.proofs.laws.stuck_component_has_no_place.Goals as goal

pub returns : goal.returns
returns c = no_free_place
