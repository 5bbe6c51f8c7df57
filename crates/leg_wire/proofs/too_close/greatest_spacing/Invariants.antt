-- No spacing on the layers so far is above the greatest one.
use Rattle.std.proofs.Common.{◌≤◌, ◌<◌, ℕ}
use Rattle.leg_rules.specs.Spacing.RequiredSpacing.{greatest_spacing_on}
use Rattle.leg_wire.proofs.too_close.greatest_spacing.Given as goal

abbrev pub invariant-loop-layer : goal.invariant-loop-layer
invariant-loop-layer g l = (layer : ℕ) → layer < l.layer → greatest_spacing_on l.library layer ≤ l.greatest
