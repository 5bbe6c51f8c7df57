use Rattle.leg_polygon.proofs.SortedNumbers.{rises, keeps, came_from}
use Rattle.leg_polygon.proofs.NumberFolds.{ordered_is}
use Rattle.leg_polygon.proofs.number_list.in_order.Goals as goal

pub returns : goal.returns
returns g c =
    ordered_is _ _ (rises _ _ c.sort_unstable.ensures.sorted c.dedup.ensures.filtered)
    (came_from _ _ _ c.sort_unstable.ensures.permutation c.dedup.ensures.filtered)
    (keeps _ _ _ c.sort_unstable.ensures.permutation c.dedup.ensures.filtered)
