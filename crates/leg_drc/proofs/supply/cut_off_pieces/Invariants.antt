-- The pieces of the nets so far that are cut off.
use Rattle.leg_drc.proofs.CutOffPieces.{AreCutOffBelow}
use Rattle.leg_drc.proofs.supply.cut_off_pieces.Given as goal

abbrev pub invariant-loop-net : goal.invariant-loop-net
invariant-loop-net g l = AreCutOffBelow l.design l.flat l.net l.found.items
