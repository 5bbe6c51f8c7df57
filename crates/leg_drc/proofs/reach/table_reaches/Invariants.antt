-- The reaches of the layers so far.
use Rattle.std.proofs.Common.{◌≡◌, ℕ, ◌<◌, length, get_or}
use Rattle.leg_drc.specs.Steps.Reach.{table_reach_on}
use Rattle.leg_drc.proofs.reach.table_reaches.Given as goal

abbrev pub invariant-loop-layer : goal.invariant-loop-layer
invariant-loop-layer g l = record {
  count : length l.reaches.items ≡ l.layer;
  each : (k : ℕ) → k < l.layer → get_or l.reaches.items k 0 ≡ table_reach_on l.deck k;
}
