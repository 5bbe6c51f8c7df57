-- The slots in the metal of the pieces so far have come.
use Rattle.std.proofs.Common.{take}
use Rattle.leg_route.specs.Steps.JoinedPart.{HaveGotSlots, MeetsPieces}
use Rattle.leg_route.proofs.joined_part.add_pieces.Given as goal

abbrev pub invariant-loop-piece : goal.invariant-loop-piece
invariant-loop-piece g l =
    HaveGotSlots l.grid (MeetsPieces l.joins.metal (take l.piece-index l.pieces)) l.fn.found.boxes.items l.fn.found.slots.items l.found.boxes.items
    l.found.slots.items
