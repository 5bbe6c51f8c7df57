use Rattle.std.proofs.Common.{take}
use Rattle.leg_lib_records.specs.Scale.{IsShapeAt, OneForOne}
use Rattle.leg_lib_records.proofs.scale_shapes.shapes_at.Given as goal

abbrev pub invariant-loop-shape : goal.invariant-loop-shape
invariant-loop-shape g l = OneForOne (IsShapeAt l.n l.shift) (take l.shape-index l.raw) l.shapes
