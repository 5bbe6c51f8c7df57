-- The shapes so far have their rectangles.
use Rattle.std.proofs.Common.{◌≡◌, map, take}
use Rattle.leg_rules.specs.declared.shape.Shape.{Shape}
use Rattle.test_memory.proofs.tests.without.rects_of.Given as goal

abbrev pub invariant-loop-shape : goal.invariant-loop-shape
invariant-loop-shape g l = l.rects.items ≡ map (λ (shape : Shape). shape.rect) (take l.shape-index l.shapes)
