use Rattle.std.proofs.Common.{◌∙◌}
use Rattle.std.proofs.lemmas.List.Sorted.{length_permutation}
use Rattle.leg_legal_sites.proofs.KeyOrder.{order_from_sort}
use Rattle.leg_legal_sites.proofs.row_keys.row_order.Goals as goal

pub returns : goal.returns
returns g c = record {
  order = order_from_sort c.args.rows.now c.in_ok-keys.keys.items c.sort_unstable.new.self.items c.in_ok-keys.ensures c.sort_unstable.ensures.permutation
      c.sort_unstable.ensures.sorted;
  count = length_permutation c.in_ok-keys.keys.items c.sort_unstable.new.self.items c.sort_unstable.ensures.permutation ∙ c.in_ok-keys.ensures.count;
}
