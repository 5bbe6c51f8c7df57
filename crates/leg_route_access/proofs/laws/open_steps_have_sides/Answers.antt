use Rattle.leg_route_access.proofs.OpenSteps.{steps_have_sides}
use Rattle.leg_route_access.proofs.laws.open_steps_have_sides.Goals as goal

pub returns : goal.returns
returns c grid flat net m n is_grid = steps_have_sides grid flat net m n is_grid
