-- The bands of the layers so far.
use Rattle.leg_sweep.specs.Steps.Grid.{AreBandsBelow}
use Rattle.leg_sweep.proofs.grid.empty_bands.Given as goal

abbrev pub invariant-loop-layer : goal.invariant-loop-layer
invariant-loop-layer g l = AreBandsBelow (g.R.LayeredRule.layer_reach_of (g.R.PairRule.fixed l.rule)) l.grid l.layer l.bands.items
