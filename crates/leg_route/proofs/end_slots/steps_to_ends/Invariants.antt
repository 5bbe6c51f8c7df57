-- The steps so far.
use Rattle.std.proofs.Common.{◌≡◌, map, take}
use Rattle.leg_route.specs.declared.end_slots.EndSlot.{EndSlot}
use Rattle.leg_route.proofs.end_slots.steps_to_ends.Given as goal

abbrev pub invariant-loop-end : goal.invariant-loop-end
invariant-loop-end g l = l.steps.items ≡ map (λ (end : EndSlot). end.least) (take l.end-index l.ends)
