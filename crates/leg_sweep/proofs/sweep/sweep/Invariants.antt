-- The items up to the next place of the order are in. Each look keeps an item waiting, which is a near pair, or retires it.
use Rattle.std.proofs.Common.{◌≡◌, ℕ, ◌≤◌, ◌+◌, length, map, take, sum_by}
use Rattle.leg_geom.specs.Pairs.{IsPair}
use Rattle.leg_sweep.specs.Counts.{count_pairs}
use Rattle.leg_sweep.specs.Steps.Bands.{waiting_at, waiting_count, entries_at, near_in_band, near_both_in_band}
use Rattle.leg_sweep.proofs.FoundSoFar.{FoundTo}
use Rattle.leg_sweep.proofs.sweep.sweep.Given as goal

abbrev pub invariant-loop-i : goal.invariant-loop-i
invariant-loop-i g l =
    let rule = g.R.PairRule in
    let sink = g.S.PairSink in
    let fixed = rule.fixed l.fn.rule in
    let rects = map (rule.rect_of fixed) l.items in
    let near = near_in_band rects l.ranges l.fn.bands in
    let both = near_both_in_band rects l.ranges l.fn.bands in
    let done = take l.i l.order in record {
      found : FoundTo sink.Takes near (IsPair (rule.Holds fixed) l.items) l.ranges l.order l.i l.bands (rule.tests_of l.rule) l.fn.sink l.sink;
      reaches : (k : ℕ) → (waiting_at l.bands k).reach ≡ (waiting_at l.fn.bands k).reach;
      count : length l.bands ≡ length l.fn.bands;
      looks : rule.looks_of l.rule + waiting_count l.bands ≤ rule.looks_of l.fn.rule + sum_by (entries_at l.ranges) done + count_pairs near done;
      tests : rule.tests_of l.rule ≤ count_pairs both done;
      counts : rule.tests_of l.rule ≤ rule.looks_of l.rule;
      same : rule.fixed l.rule ≡ fixed;
      same_room : sink.room_of l.sink ≡ sink.room_of l.fn.sink;
    }
