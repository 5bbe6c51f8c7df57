-- The pieces of the shapes so far are marked.
use Rattle.std.proofs.Common.{take}
use Rattle.leg_wire.specs.PieceMarks.{AreMarks}
use Rattle.leg_rules.specs.Joins.Touch.{piece_count}
use Rattle.leg_drc.proofs.MetalMarks.{IsMetAmong}
use Rattle.leg_drc.proofs.supply.pieces_with_metal.Given as goal

abbrev pub invariant-loop-number : goal.invariant-loop-number
invariant-loop-number g l =
    AreMarks (IsMetAmong l.flat (piece_count l.flat l.net) (take l.number-index l.numbers)) (piece_count l.flat l.net) l.marks.items
