-- The slots in the shapes so far.
use Rattle.std.proofs.Common.{take}
use Rattle.leg_finish.specs.Steps.GroupSlots.{IsJoinedAs, AreSlotsOf}
use Rattle.leg_finish.proofs.group_slots.group_slots.Given as goal

abbrev pub invariant-loop-number : goal.invariant-loop-number
invariant-loop-number g l =
    AreSlotsOf l.grid l.shapes (IsJoinedAs l.firsts l.first l.is_joined) (take l.number-index l.numbers) l.found.boxes.items l.found.slots.items
