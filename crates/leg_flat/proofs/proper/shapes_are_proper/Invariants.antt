use Rattle.std.proofs.Common.{take}
use Rattle.leg_flat.specs.ProperLibrary.{AreProperShapes}
use Rattle.leg_flat.proofs.proper.shapes_are_proper.Given as goal

abbrev pub invariant-loop-shape : goal.invariant-loop-shape
invariant-loop-shape l = AreProperShapes (take l.shape-index l.shapes)
