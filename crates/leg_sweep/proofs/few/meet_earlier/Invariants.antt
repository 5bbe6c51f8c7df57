-- What the earlier items so far give.
use Rattle.std.proofs.Common.{◌≡◌, ◌≤◌, ◌+◌, ◌-◌, take, count_by}
use Rattle.std.specs.List.{range_with_len}
use Rattle.leg_geom.specs.Pairs.{IsPair}
use Rattle.leg_sweep.specs.Counts.{near_on_layer}
use Rattle.leg_sweep.specs.Steps.Sweep.{AreNewPairs}
use Rattle.leg_sweep.proofs.few.meet_earlier.Given as goal

abbrev pub invariant-loop-other : goal.invariant-loop-other
invariant-loop-other g l =
    let rule = g.R.PairRule in
    let layered = g.R.LayeredRule in
    let sink = g.S.PairSink in
    let fixed = rule.fixed l.fn.rule in
    let near = near_on_layer (rule.rect_of fixed) (layered.layer_of fixed) (layered.layer_reach_of fixed) in record {
      found : AreNewPairs sink.Takes (IsPair (rule.Holds fixed) l.items) (range_with_len 0 l.other) l.new
          (rule.tests_of l.rule - rule.tests_of l.fn.rule) l.fn.sink l.sink;
      tests : rule.tests_of l.rule ≡ rule.tests_of l.fn.rule + count_by (λ x. near x l.item) (take l.other l.items);
      looks : rule.looks_of l.rule ≤ rule.looks_of l.fn.rule + l.other;
      counts : rule.tests_of l.rule ≤ rule.looks_of l.rule;
      same : rule.fixed l.rule ≡ fixed;
      same_room : sink.room_of l.sink ≡ sink.room_of l.fn.sink;
    }
