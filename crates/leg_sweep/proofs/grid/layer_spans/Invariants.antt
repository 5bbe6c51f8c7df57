-- What the items so far span.
use Rattle.std.proofs.Common.{take}
use Rattle.leg_sweep.specs.Steps.Grid.{AreSpans}
use Rattle.leg_sweep.proofs.grid.layer_spans.Given as goal

abbrev pub invariant-loop-item : goal.invariant-loop-item
invariant-loop-item g l =
    let fixed = g.R.PairRule.fixed l.rule in
    AreSpans (g.R.PairRule.rect_of fixed) (g.R.LayeredRule.layer_of fixed) (g.R.LayeredRule.layers_of fixed) (take l.item-index l.items) l.spans.items
