use Rattle.leg_legal.proofs.TurnKeyOrder.{order_from_sort}
use Rattle.leg_legal.proofs.turns.order_of_taking.Goals as goal

pub returns : goal.returns
returns g c =
    order_from_sort c.args.design.now c.in_ok-keys.keys.items c.sort_unstable.new.self.items c.in_ok-keys.ensures c.sort_unstable.ensures.permutation
    c.sort_unstable.ensures.sorted
