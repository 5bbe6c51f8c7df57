-- The violations of the shapes so far.
use Rattle.std.proofs.Common.{◌≡◌, ◌++◌, map, take}
use Rattle.leg_drc.specs.Steps.Kinds.{shape_fault}
use Rattle.leg_drc.proofs.faults.push_shapes.Given as goal

abbrev pub invariant-loop-number : goal.invariant-loop-number
invariant-loop-number g l = l.found.items ≡ l.initial.found.items ++ map (shape_fault l.kind) (take l.number-index l.numbers)
