use Rattle.std.proofs.Common.{take}
use Rattle.leg_lib_records.specs.Scale.{IsViaAt, OneForOne}
use Rattle.leg_lib_records.proofs.scale_shapes.vias_at.Given as goal

abbrev pub invariant-loop-via : goal.invariant-loop-via
invariant-loop-via g l = OneForOne (IsViaAt l.n) (take l.via-index l.via-items) l.vias.items
