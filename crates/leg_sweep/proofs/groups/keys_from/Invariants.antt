-- The numbers so far.
use Rattle.std.proofs.Common.{◌≡◌, ◌-◌, map}
use Rattle.std.specs.List.{range_with_len}
use Rattle.leg_sweep.proofs.groups.keys_from.Given as goal

abbrev pub invariant-loop-number : goal.invariant-loop-number
invariant-loop-number g l = map (λ key. key.1) l.keys.items ≡ range_with_len l.first (l.number - l.first)
