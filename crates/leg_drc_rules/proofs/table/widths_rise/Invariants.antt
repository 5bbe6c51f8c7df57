use Rattle.std.proofs.Common.{◌≡◌, map, length}
use Rattle.leg_drc_rules.specs.Table.{rise}
use Rattle.leg_drc_rules.proofs.table.widths_rise.Given as goal

abbrev pub invariant-rows : goal.invariant-rows
invariant-rows g l = rise (map (λ row. row.width) l.rest) ≡ rise (map (λ row. row.width) l.rows)

abbrev pub decreases-rows : goal.decreases-rows
decreases-rows g l = length l.rest
