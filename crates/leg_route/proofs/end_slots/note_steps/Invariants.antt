-- The same ends, of which the first have their steps.
use Rattle.std.proofs.Common.{◌≡◌, ◌<◌, ℕ, get_or}
use Rattle.leg_route.specs.declared.end_slots.EndSlot.{EndSlot}
use Rattle.leg_route.specs.Steps.EndSlots.{AreSameEnds}
use Rattle.leg_route.proofs.end_slots.note_steps.Given as goal

abbrev pub invariant-loop-k : goal.invariant-loop-k
invariant-loop-k l = record {
  same : AreSameEnds l.fn.ends l.ends;
  noted : (j : ℕ) (d : EndSlot) → j < l.k → (get_or l.ends j d).least ≡ get_or l.steps j 0;
}
