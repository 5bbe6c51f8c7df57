-- The slots in the shapes so far have come.
use Rattle.std.proofs.Common.{take}
use Rattle.leg_route.specs.Steps.JoinedPart.{HaveGotSlots, MeetsMetal}
use Rattle.leg_route.proofs.joined_part.add_metal.Given as goal

abbrev pub invariant-loop-shape : goal.invariant-loop-shape
invariant-loop-shape g l =
    HaveGotSlots l.grid (MeetsMetal (take l.shape-index l.metal)) l.fn.found.boxes.items l.fn.found.slots.items l.found.boxes.items l.found.slots.items
