use Rattle.leg_wire.proofs.PairsInOrder.{rises, keeps, came_from}
use Rattle.leg_wire.proofs.close_pairs.put_in_order.Goals as goal

pub returns-clause-rising : goal.returns-clause-rising
returns-clause-rising g c = rises _ _ c.sort_unstable.ensures.sorted c.dedup.ensures.filtered

pub returns-clause-same : goal.returns-clause-same
returns-clause-same g c p = (
  came_from _ _ _ c.sort_unstable.ensures.permutation c.dedup.ensures.filtered p,
  keeps _ _ _ c.sort_unstable.ensures.permutation c.dedup.ensures.filtered p,
)
