-- The runs that are left give the value that all give.
use Rattle.std.proofs.Common.{◌≡◌, drop}
use Rattle.leg_drc.specs.Table.{value_behind}
use Rattle.leg_drc.proofs.table.value_behind.Given as goal

abbrev pub invariant-loop-k : goal.invariant-loop-k
invariant-loop-k l = value_behind l.run l.value l.runs l.values ≡ value_behind l.run l.found (drop l.k l.runs) (drop l.k l.values)
