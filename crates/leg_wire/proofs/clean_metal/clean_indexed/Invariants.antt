-- None of the near shapes so far is close, and what is left is near.
use Rattle.std.proofs.Common.{◌≡◌, ◌++◌, All}
use Rattle.leg_wire.proofs.NearShapes.{IsFarAt}
use Rattle.leg_wire.proofs.clean_metal.clean_indexed.Given as goal

abbrev pub invariant-loop-number : goal.invariant-loop-number
invariant-loop-number g l = record {
  can : (goal.iterator-loop-number g).can_next l.number-iterator;
  ends : (goal.iterator-loop-number g).is_finite l.number-iterator;
  so_far : l.initial.number-iterator ≡ l.yielded ++ l.number-iterator;
  far : All (IsFarAt l.shapes l.spacing l.metal) l.yielded;
}
