-- Those of the near ones so far that come before.
use Rattle.std.proofs.Common.{◌≡◌, ◌++◌, ltb, filter}
use Rattle.leg_sweep.proofs.near_pairs.near_before.Given as goal

abbrev pub invariant-loop-number : goal.invariant-loop-number
invariant-loop-number g l = record {
  can : (goal.iterator-loop-number g).can_next l.number-iterator;
  ends : (goal.iterator-loop-number g).is_finite l.number-iterator;
  so_far : l.initial.number-iterator ≡ l.yielded ++ l.number-iterator;
  kept : l.near.items ≡ filter (λ x. ltb x l.new) l.yielded;
}
