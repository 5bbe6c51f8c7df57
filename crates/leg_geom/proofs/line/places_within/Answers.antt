use Rattle.std.proofs.Common.{rules}
use Rattle.std.specs.Prelude.{int_lt, int_le}
use Rattle.std.proofs.lemmas.List.Sorted.{IsPartitionPoint-from_clause}
use Rattle.leg_geom.proofs.RisingValues.{below_first, upto_first, places_from_points}
use Rattle.leg_geom.proofs.line.places_within.Goals as goal

pub returns : goal.returns
returns c =
    let values = c.args.values.now in
    record {
      within = c.partition_point-end.ensures.bound;
      places = λ rising.
          places_from_points values c.args.low c.args.high c.partition_point-first.result c.partition_point-end.result c.partition_point-end.ensures.bound
          (IsPartitionPoint-from_clause (λ z. int_lt z c.args.low) values _ c.partition_point-first.ensures.partitioned (below_first values rising c.args.low)
          (λ a r q k. search rules))
          (IsPartitionPoint-from_clause (λ z. int_le z c.args.high) values _ c.partition_point-end.ensures.partitioned (upto_first values rising c.args.high)
          (λ a r q k. search rules));
    }
