-- What the waiting items so far give.
use Rattle.std.proofs.Common.{◌≡◌, ◌+◌, map, take, filter, count_by}
use Rattle.leg_geom.specs.Pairs.{IsPair}
use Rattle.leg_sweep.specs.Counts.{near_along_x, near_along_both}
use Rattle.leg_sweep.specs.Steps.Sweep.{test_at, AreNewPairs}
use Rattle.leg_sweep.proofs.waiting.turn.Given as goal

abbrev pub invariant-loop-other : goal.invariant-loop-other
invariant-loop-other g l =
    let rule = g.R.PairRule in
    let sink = g.S.PairSink in
    let fixed = rule.fixed l.fn.rule in
    let rects = map (rule.rect_of fixed) l.items in
    let done = take l.other-index l.waiting in
    let tests = count_by (λ x. test_at (near_along_both l.reach) rects x l.new) done in record {
      kept : l.kept.items ≡ filter (λ x. test_at (near_along_x l.reach) rects x l.new) done;
      found : AreNewPairs sink.Takes (IsPair (rule.Holds fixed) l.items) done l.new tests l.fn.sink l.sink;
      looks : rule.looks_of l.rule ≡ rule.looks_of l.fn.rule + l.other-index;
      tests : rule.tests_of l.rule ≡ rule.tests_of l.fn.rule + tests;
      same : rule.fixed l.rule ≡ fixed;
      same_room : sink.room_of l.sink ≡ sink.room_of l.fn.sink;
    }
