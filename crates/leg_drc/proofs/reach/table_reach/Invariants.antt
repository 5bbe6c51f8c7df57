use Rattle.std.proofs.Common.{◌≡◌, take}
use Rattle.leg_drc.specs.Steps.Reach.{greatest_by, row_reach}
use Rattle.leg_drc.proofs.reach.table_reach.Given as goal

abbrev pub invariant-loop-row : goal.invariant-loop-row
invariant-loop-row g l = l.found ≡ greatest_by row_reach (take l.row-index l.row-items)
