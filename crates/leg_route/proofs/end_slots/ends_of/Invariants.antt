-- The ends in the shapes so far.
use Rattle.std.proofs.Common.{take}
use Rattle.leg_route_access.specs.Steps.AccessToNet.{IsNodeAdmitted}
use Rattle.leg_route.specs.Steps.EndSlots.{IsApart, MeetsPiece, IsBoundFrom, AreEndSlots}
use Rattle.leg_route.proofs.end_slots.ends_of.Given as goal

abbrev pub invariant-loop-number : goal.invariant-loop-number
invariant-loop-number g l =
    AreEndSlots l.grid (IsApart l.joined) (MeetsPiece l.shapes (take l.number-index l.numbers)) (IsNodeAdmitted l.table l.net)
    (IsBoundFrom l.grid l.boxes) l.firsts l.list.ends.items
