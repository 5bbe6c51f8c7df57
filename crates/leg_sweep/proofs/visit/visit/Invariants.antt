-- The bands up to the next one are visited.
use Rattle.std.proofs.Common.{◌≡◌, ◌≤◌, ◌+◌, ◌-◌, length, map, count_by}
use Rattle.leg_geom.specs.Pairs.{IsPair}
use Rattle.leg_sweep.specs.Counts.{near_along_x, near_along_both}
use Rattle.leg_sweep.specs.Steps.Bands.{waiting_at, met, waiting_count, AreVisited}
use Rattle.leg_sweep.specs.Steps.Sweep.{test_at, AreNewPairs}
use Rattle.leg_sweep.proofs.visit.visit.Given as goal

abbrev pub invariant-loop-k : goal.invariant-loop-k
invariant-loop-k g l =
    let rule = g.R.PairRule in
    let sink = g.S.PairSink in
    let fixed = rule.fixed l.fn.rule in
    let rects = map (rule.rect_of fixed) l.items in
    let first = l.fn.range.first in
    let old = l.fn.bands in
    let reach = (waiting_at old first).reach in
    let seen = met old first (l.k - first) in
    let tests = count_by (λ x. test_at (near_along_both reach) rects x l.new) seen in record {
      visited : AreVisited (λ x. test_at (near_along_x reach) rects x l.new) first l.k l.new old l.bands;
      found : AreNewPairs sink.Takes (IsPair (rule.Holds fixed) l.items) seen l.new tests l.fn.sink l.sink;
      looks : rule.looks_of l.rule ≡ rule.looks_of l.fn.rule + length seen;
      tests : rule.tests_of l.rule ≡ rule.tests_of l.fn.rule + tests;
      left : waiting_count l.bands + length seen ≡ waiting_count old + count_by (λ x. test_at (near_along_x reach) rects x l.new) seen + (l.k + 1 - first);
      counts : rule.tests_of l.rule ≤ rule.looks_of l.rule;
      same : rule.fixed l.rule ≡ fixed;
      same_room : sink.room_of l.sink ≡ sink.room_of l.fn.sink;
    }
