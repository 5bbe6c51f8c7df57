-- The bands of the layers so far, and the number of the next one.
use Rattle.std.proofs.Common.{◌≡◌, sum_by}
use Rattle.leg_sweep.specs.Steps.Grid.{IsGrid}
use Rattle.leg_sweep.proofs.grid.layer_bands.Given as goal

abbrev pub invariant-loop-layer : goal.invariant-loop-layer
invariant-loop-layer g l = record {
  so_far : IsGrid (g.R.LayeredRule.layer_reach_of (g.R.PairRule.fixed l.rule)) l.layer l.spans l.grid.items;
  next : l.first ≡ sum_by (λ bands. bands.count) l.grid.items;
}
