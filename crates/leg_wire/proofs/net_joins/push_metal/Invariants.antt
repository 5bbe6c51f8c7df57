-- The metal so far.
use Rattle.std.proofs.Common.{◌≡◌, ◌++◌, take}
use Rattle.leg_wire.specs.Joins.{metal_of_piece}
use Rattle.leg_wire.proofs.net_joins.push_metal.Given as goal

abbrev pub invariant-loop-shape : goal.invariant-loop-shape
invariant-loop-shape g l = l.metal.items ≡ l.fn.metal.items ++ metal_of_piece l.piece (take l.shape-index l.shapes)
