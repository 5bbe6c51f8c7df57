-- None of the shapes so far is close.
use Rattle.std.proofs.Common.{All, take}
use Rattle.leg_rules.specs.declared.shape.Shape.{Shape}
use Rattle.leg_rules.specs.Spacing.Closer.{AreCloserThan}
use Rattle.leg_wire.proofs.clean_metal.clean.Given as goal

abbrev pub invariant-loop-shape : goal.invariant-loop-shape
invariant-loop-shape g l = All (λ (shape : Shape). ¬ AreCloserThan l.spacing l.metal shape) (take l.shape-index l.shape-items)
