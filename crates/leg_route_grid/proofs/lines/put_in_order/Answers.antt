use Rattle.leg_route_grid.proofs.SortedNumbers.{rises, keeps, came_from}
use Rattle.leg_route_grid.proofs.lines.put_in_order.Goals as goal

pub returns-clause-rising : goal.returns-clause-rising
returns-clause-rising g c = rises _ _ c.sort_unstable.ensures.sorted c.dedup.ensures.filtered

pub returns-clause-same : goal.returns-clause-same
returns-clause-same g c z = (
  came_from _ _ _ c.sort_unstable.ensures.permutation c.dedup.ensures.filtered z,
  keeps _ _ _ c.sort_unstable.ensures.permutation c.dedup.ensures.filtered z,
)
