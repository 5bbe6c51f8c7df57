-- The pieces so far that have no mark are listed.
use Rattle.std.proofs.Common.{take}
use Rattle.leg_wire.specs.Steps.OpenViolations.{NamesOnlyUnmarked}
use Rattle.leg_wire.specs.Steps.AddedFaults.{AreAdded}
use Rattle.leg_wire.proofs.open_fault.push_open.Given as goal

abbrev pub invariant-loop-piece : goal.invariant-loop-piece
invariant-loop-piece g l = AreAdded (NamesOnlyUnmarked l.net (take l.piece l.marks)) l.fn.found.items l.found.items
