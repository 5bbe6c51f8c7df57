-- The rows that are left give the row that all give.
use Rattle.std.proofs.Common.{◌≡◌, drop}
use Rattle.leg_drc.specs.Table.{row_behind}
use Rattle.leg_drc.proofs.table.row_behind.Given as goal

abbrev pub invariant-loop-other : goal.invariant-loop-other
invariant-loop-other g l = row_behind l.width l.row l.rows ≡ row_behind l.width l.found (drop l.other-index l.rows)
