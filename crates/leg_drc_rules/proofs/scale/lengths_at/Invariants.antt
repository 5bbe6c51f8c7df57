use Rattle.std.proofs.Common.{take}
use Rattle.leg_lib_records.specs.Scale.{IsLengthAt, OneForOne}
use Rattle.leg_drc_rules.proofs.scale.lengths_at.Given as goal

abbrev pub invariant-loop-length : goal.invariant-loop-length
invariant-loop-length g l = OneForOne (IsLengthAt l.n) (take l.length-index l.raw) l.lengths.items
