use Rattle.leg_route_access.proofs.OpenWalks.{grid_walk}
use Rattle.leg_route_access.proofs.laws.open_walks_are_grid_walks.Goals as goal

pub returns : goal.returns
returns c design flat net nodes walk = grid_walk design flat net walk.walk
