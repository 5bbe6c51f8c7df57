use Rattle.std.proofs.Common.{take}
use Rattle.leg_lib_records.specs.Scale.{OneForOne}
use Rattle.leg_drc_rules.specs.Scale.{IsRowAt}
use Rattle.leg_drc_rules.proofs.scale.rows_at.Given as goal

abbrev pub invariant-loop-row : goal.invariant-loop-row
invariant-loop-row g l = OneForOne (IsRowAt l.n) (take l.row-index l.raw) l.rows.items
