use Rattle.std.proofs.Common.{take}
use Rattle.leg_lib_records.specs.Scale.{IsRuleWidthAt, OneForOne}
use Rattle.leg_lib_records.proofs.scale_rules.widths_at.Given as goal

abbrev pub invariant-loop-width : goal.invariant-loop-width
invariant-loop-width g l = OneForOne (IsRuleWidthAt l.n) (take l.width-index l.raw) l.widths.items
