use Rattle.leg_route_grid.proofs.Bounds.{one_nearer, in_boxes}
use Rattle.leg_route_grid.proofs.laws.bounds_hold.Goals as goal

pub returns-clause-nearer : goal.returns-clause-nearer
returns-clause-nearer c grid boxes side n to is_grid step = one_nearer grid boxes side n to is_grid step

pub returns-clause-inside : goal.returns-clause-inside
returns-clause-inside c grid boxes ends n s slot has inside = in_boxes grid boxes ends n s slot has inside
