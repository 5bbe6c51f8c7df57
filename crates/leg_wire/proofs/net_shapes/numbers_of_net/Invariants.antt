-- The net's shapes so far.
use Rattle.leg_wire.proofs.NetNumbers.{AreBelow}
use Rattle.leg_wire.proofs.net_shapes.numbers_of_net.Given as goal

abbrev pub invariant-loop-number : goal.invariant-loop-number
invariant-loop-number g l = AreBelow l.shapes l.net l.number l.numbers.items
