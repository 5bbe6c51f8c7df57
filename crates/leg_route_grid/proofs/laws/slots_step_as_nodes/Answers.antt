use Rattle.leg_route_grid.proofs.SlotSides.{beside_is}
use Rattle.leg_route_grid.proofs.laws.slots_step_as_nodes.Goals as goal

pub returns : goal.returns
returns c grid side s t a b is_grid at_s at_t a_is b_is = beside_is grid side s t a b is_grid at_s at_t a_is b_is
