use Rattle.std.proofs.Common.{take}
use Rattle.leg_lib_records.specs.Scale.{OneForOne}
use Rattle.leg_drc_rules.specs.Scale.{IsLineEndAt}
use Rattle.leg_drc_rules.proofs.scale.line_ends_at.Given as goal

abbrev pub invariant-loop-line_end : goal.invariant-loop-line_end
invariant-loop-line_end g l = OneForOne (IsLineEndAt l.n) (take l.line_end-index l.raw) l.line_ends.items
