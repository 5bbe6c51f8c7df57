-- The last stretch has the site or begins before it, or the stretches are searched.
use Rattle.std.proofs.Common.{◌-◌, length, get_or, arith, rules}
use Rattle.std.specs.Prelude.{nat_le}
use Rattle.std.proofs.lemmas.List.Sorted.{IsPartitionPoint-from_clause}
use Rattle.std.proofs.lemmas.Option.{slice_get-get_or}
use Rattle.leg_legal_sites.specs.declared.stretch.Stretch.{Stretch}
use Rattle.leg_legal_sites.proofs.FirstFits.{ends_partitioned}
use Rattle.leg_legal_sites.proofs.CutPoints.{beyond_from_point, beyond_at_last}
use Rattle.leg_legal_sites.proofs.take_sites.first_end_beyond.Goals as goal

abbrev none : Stretch
none = record { from = 0; end = 0 }

pub returns-then-site-free : goal.returns-then-site-free
returns-then-site-free c =
    let free = c.args.free.now in
    let some = c.if-count-gt0.true in
    let last = length free - 1 in
    let s : Stretch = get_or free last none in
    beyond_at_last free c.args.site last s c.requires (omega (arith, some)) (slice_get-get_or free last none (omega (arith, some)))
    c.if-free-count.true c.if-site-free.true

pub returns : goal.returns
returns c =
    let free = c.args.free.now in
    beyond_from_point free c.args.site _ c.partition_point.ensures.bound
    (IsPartitionPoint-from_clause (λ s. nat_le s.end c.args.site) free _ c.partition_point.ensures.partitioned
    (ends_partitioned free c.args.site c.requires) (λ a r q k. search rules))
