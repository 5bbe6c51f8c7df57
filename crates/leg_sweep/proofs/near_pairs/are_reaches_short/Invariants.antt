-- The reaches of the layers so far are short.
use Rattle.std.proofs.Common.{ℕ, ◌<◌, ◌^◌}
use Rattle.leg_sweep.proofs.near_pairs.are_reaches_short.Given as goal

abbrev pub invariant-loop-layer : goal.invariant-loop-layer
invariant-loop-layer g l = (layer : ℕ) → layer < l.layer → g.R.LayeredRule.layer_reach_of (g.R.PairRule.fixed l.rule) layer < 2 ^ 32
