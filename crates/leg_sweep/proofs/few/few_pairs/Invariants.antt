-- The pairs among the items so far are found.
use Rattle.std.proofs.Common.{◌≡◌, ◌≤◌, ◌+◌, ◌*◌, take}
use Rattle.leg_geom.specs.Pairs.{IsPair}
use Rattle.leg_sweep.specs.Counts.{near_on_layer, count_pairs}
use Rattle.leg_sweep.proofs.FewPairs.{FoundBelow}
use Rattle.leg_sweep.proofs.few.few_pairs.Given as goal

abbrev pub invariant-loop-new : goal.invariant-loop-new
invariant-loop-new g l =
    let rule = g.R.PairRule in
    let layered = g.R.LayeredRule in
    let sink = g.S.PairSink in
    let fixed = rule.fixed l.fn.rule in
    let near = near_on_layer (rule.rect_of fixed) (layered.layer_of fixed) (layered.layer_reach_of fixed) in record {
      found : FoundBelow sink.Takes (IsPair (rule.Holds fixed) l.items) l.new (rule.tests_of l.rule) l.fn.sink l.sink;
      tests : rule.tests_of l.rule ≡ count_pairs near (take l.new l.items);
      looks : rule.looks_of l.rule + rule.looks_of l.rule + l.new ≤ l.new * l.new;
      counts : rule.tests_of l.rule ≤ rule.looks_of l.rule;
      same : rule.fixed l.rule ≡ fixed;
      same_room : sink.room_of l.sink ≡ sink.room_of l.fn.sink;
    }
