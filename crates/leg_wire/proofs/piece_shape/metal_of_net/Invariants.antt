-- The metal that the shapes so far are.
use Rattle.std.proofs.Common.{take}
use Rattle.leg_wire.proofs.PieceMetal.{AreAmong}
use Rattle.leg_wire.proofs.piece_shape.metal_of_net.Given as goal

abbrev pub invariant-loop-number : goal.invariant-loop-number
invariant-loop-number g l = AreAmong l.flat l.net (take l.number-index l.numbers) l.pieces.items
