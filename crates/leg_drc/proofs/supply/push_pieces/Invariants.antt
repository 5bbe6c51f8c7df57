-- The pairs so far.
use Rattle.std.proofs.Common.{◌≡◌, ◌++◌, map, take}
use Rattle.leg_drc.proofs.supply.push_pieces.Given as goal

abbrev pub invariant-loop-piece : goal.invariant-loop-piece
invariant-loop-piece g l = l.found.items ≡ l.initial.found.items ++ map (λ k. (l.net, k)) (take l.piece-index l.pieces)
