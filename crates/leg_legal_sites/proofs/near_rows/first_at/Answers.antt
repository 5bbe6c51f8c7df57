-- The lower rows stand first.
use Rattle.std.proofs.Common.{rules}
use Rattle.std.proofs.lemmas.List.Sorted.{IsPartitionPoint-from_clause}
use Rattle.leg_legal_sites.specs.Steps.RowPositions.{is_lower}
use Rattle.leg_legal_sites.proofs.RowsAround.{lower_partitioned, split_from_point}
use Rattle.leg_legal_sites.proofs.near_rows.first_at.Goals as goal

pub returns : goal.returns
returns c =
    let order = c.args.order.now in
    let wanted = c.args.wanted.now in
    split_from_point order wanted c.partition_point.result c.partition_point.ensures.bound
    (IsPartitionPoint-from_clause (λ key. is_lower key wanted) order _ c.partition_point.ensures.partitioned (lower_partitioned order wanted c.requires)
    (λ a r q k. search rules))
