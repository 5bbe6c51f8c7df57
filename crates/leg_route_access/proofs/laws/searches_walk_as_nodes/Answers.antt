use Rattle.leg_route_access.proofs.NextWalks.{walk_among, none_among}
use Rattle.leg_route_access.proofs.laws.searches_walk_as_nodes.Goals as goal

pub returns-clause-shortest : goal.returns-clause-shortest
returns-clause-shortest c grid origin around flat slots net starts finish numbers is_grid sound told walk =
    walk_among grid origin around flat slots net is_grid sound told starts finish numbers walk

pub returns-clause-none : goal.returns-clause-none
returns-clause-none c grid origin around flat slots net starts finish is_grid sound told none =
    none_among grid origin around flat slots net is_grid sound told starts finish none
