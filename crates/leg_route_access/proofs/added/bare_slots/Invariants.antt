use Rattle.leg_route_access.proofs.BareSlots.{AreToldBelow}
use Rattle.leg_route_access.proofs.added.bare_slots.Given as goal

abbrev pub invariant-loop-number : goal.invariant-loop-number
invariant-loop-number g l = AreToldBelow l.grid l.number l.slots.items
