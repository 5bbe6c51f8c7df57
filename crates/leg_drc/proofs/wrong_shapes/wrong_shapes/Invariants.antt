-- The shapes so far with which this is wrong.
use Rattle.leg_drc.specs.Violations.{IsShapeWith}
use Rattle.leg_drc.specs.Steps.Kinds.{IsWrongShape}
use Rattle.leg_drc.proofs.NumbersBelow.{AreBelow}
use Rattle.leg_drc.proofs.wrong_shapes.wrong_shapes.Given as goal

abbrev pub invariant-loop-number : goal.invariant-loop-number
invariant-loop-number g l = AreBelow (IsShapeWith (IsWrongShape l.kind l.design l.deck l.flat) l.flat) l.number l.numbers.items
