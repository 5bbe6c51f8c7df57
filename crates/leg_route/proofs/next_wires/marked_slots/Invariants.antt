-- The slots in the shapes so far.
use Rattle.std.proofs.Common.{take}
use Rattle.leg_route.specs.Steps.NetSlots.{AreMarkedSlots}
use Rattle.leg_route.proofs.next_wires.marked_slots.Given as goal

abbrev pub invariant-loop-number : goal.invariant-loop-number
invariant-loop-number g l = AreMarkedSlots l.grid l.shapes l.marks l.mark (take l.number-index l.numbers) l.found.boxes.items l.found.slots.items
