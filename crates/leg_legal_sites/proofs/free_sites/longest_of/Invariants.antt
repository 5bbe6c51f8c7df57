-- None of the stretches so far is longer.
use Rattle.std.proofs.Common.{ℕ, ◌<◌, ◌≤◌, ◌-◌, Some, slice_get, ◌≡◌}
use Rattle.leg_legal_sites.specs.declared.stretch.Stretch.{Stretch}
use Rattle.leg_legal_sites.proofs.free_sites.longest_of.Given as goal

abbrev pub invariant-loop-stretch : goal.invariant-loop-stretch
invariant-loop-stretch l = (n : ℕ) (s : Stretch) → n < l.stretch-index → slice_get l.stretches n ≡ Some s → s.end - s.from ≤ l.longest
