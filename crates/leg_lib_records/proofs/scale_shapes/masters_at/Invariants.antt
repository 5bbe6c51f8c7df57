use Rattle.std.proofs.Common.{take}
use Rattle.leg_lib_records.specs.Scale.{IsMasterAt, OneForOne}
use Rattle.leg_lib_records.proofs.scale_shapes.masters_at.Given as goal

abbrev pub invariant-loop-master : goal.invariant-loop-master
invariant-loop-master g l = OneForOne (IsMasterAt l.n) (take l.master-index l.master-items) l.masters.items
