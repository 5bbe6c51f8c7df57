-- The pieces so far that are apart.
use Rattle.leg_drc.specs.Steps.CutOff.{IsApart}
use Rattle.leg_drc.proofs.NumbersBelow.{AreBelow}
use Rattle.leg_drc.proofs.supply.pieces_apart.Given as goal

abbrev pub invariant-loop-piece : goal.invariant-loop-piece
invariant-loop-piece g l = AreBelow (IsApart l.marks l.groups) l.piece l.pieces.items
