-- The ends at the slots so far.
use Rattle.std.proofs.Common.{take}
use Rattle.leg_route_access.specs.Steps.AccessToNet.{IsNodeAdmitted}
use Rattle.leg_route.specs.Steps.EndSlots.{HaveGotSlotEnds}
use Rattle.leg_route.proofs.end_slots.push_ends.Given as goal

abbrev pub invariant-loop-slot : goal.invariant-loop-slot
invariant-loop-slot g l =
    HaveGotSlotEnds l.grid (IsNodeAdmitted l.table l.net) l.firsts l.boxes l.piece (take l.slot-index l.slots) l.fn.list.ends.items l.list.ends.items
