-- A run that lies below gives its value, and another one doesn't. Where no value is left, none is found any more.
use Rattle.std.proofs.Common.{arith}
use Rattle.std.proofs.lemmas.Int.{to_z-of_z}
use Rattle.leg_drc.proofs.TableRuns.{value_taken, value_left, value_last}
use Rattle.leg_drc.proofs.table.value_behind.Goals as goal
use Rattle.leg_drc.proofs.table.value_behind.Goals.{then-below-run, else-below-run}

pub returns-then-k-values : goal.returns-then-k-values
returns-then-k-values c = grind (arith, to_z-of_z, value_last)

pub loop-k-preserved : goal.loop-k-preserved
loop-k-preserved c =
    elim c.if-below-run.branch [
      | then-below-run w ↦ grind (arith, to_z-of_z, value_taken)
      | else-below-run w ↦ grind (arith, to_z-of_z, value_left)
    ]
