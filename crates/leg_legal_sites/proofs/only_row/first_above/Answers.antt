-- The rows up to this y stand first.
use Rattle.std.proofs.Common.{rules, int_le}
use Rattle.std.proofs.lemmas.List.Sorted.{IsPartitionPoint-from_clause}
use Rattle.leg_legal_sites.proofs.OnlyRow.{upto_partitioned, upto_from_point}
use Rattle.leg_legal_sites.proofs.only_row.first_above.Goals as goal

pub returns : goal.returns
returns c =
    let order = c.args.order.now in
    upto_from_point order c.args.y c.partition_point.result
    (IsPartitionPoint-from_clause (λ key. int_le key.y c.args.y) order _ c.partition_point.ensures.partitioned (upto_partitioned order c.args.y c.requires)
    (λ a r q k. search rules))
