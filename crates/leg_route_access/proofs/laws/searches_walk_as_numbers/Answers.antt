use Rattle.leg_route_access.proofs.TableNumbers.{next_walk_at, no_walk_at, walk_below}
use Rattle.leg_route_access.proofs.laws.searches_walk_as_numbers.Goals as goal

pub returns-clause-shortest : goal.returns-clause-shortest
returns-clause-shortest c grid origin around flat slots net starts finish numbers is_grid sound told first last walk =
    next_walk_at grid origin around flat slots net is_grid sound told starts finish first last numbers walk

pub returns-clause-none : goal.returns-clause-none
returns-clause-none c grid origin around flat slots net starts finish is_grid sound told first last none =
    no_walk_at grid origin around flat slots net is_grid sound told starts finish first last none

pub returns-clause-within : goal.returns-clause-within
returns-clause-within c grid origin around slots net starts finish numbers count walk = walk_below grid slots count net walk.walk
