use Rattle.std.proofs.Common.{◌≡◌, length}
use Rattle.leg_drc_rules.specs.Table.{rise}
use Rattle.leg_drc_rules.proofs.table.runs_rise.Given as goal

abbrev pub invariant-runs : goal.invariant-runs
invariant-runs l = rise l.rest ≡ rise l.runs

abbrev pub decreases-runs : goal.decreases-runs
decreases-runs l = length l.rest
