-- Those of the ends so far.
use Rattle.std.proofs.Common.{take}
use Rattle.leg_route.specs.Steps.EndSlots.{AreEndsLeft}
use Rattle.leg_route.proofs.end_slots.ends_left.Given as goal

abbrev pub invariant-loop-end : goal.invariant-loop-end
invariant-loop-end g l = AreEndsLeft l.grid l.joined l.boxes (take l.end-index l.ends) l.left.items
