-- No component so far is misplaced.
use Rattle.leg_place.specs.Steps.ListPrefix.{IsOneMisplaced}
use Rattle.leg_place.proofs.placed.is_one_misplaced.Given as goal

abbrev pub invariant-loop-i : goal.invariant-loop-i
invariant-loop-i g l = IsOneMisplaced l.design l.i → ⊥
