-- As many bands more as turns.
use Rattle.std.proofs.Common.{◌≡◌, ◌++◌, replicate}
use Rattle.leg_sweep.specs.Steps.Bands.{empty_band}
use Rattle.leg_sweep.proofs.grid.push_bands.Given as goal

abbrev pub invariant-loop : goal.invariant-loop
invariant-loop g l = l.bands.items ≡ l.fn.bands.items ++ replicate l.counter (empty_band l.reach)
