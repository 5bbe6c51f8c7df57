use Rattle.std.proofs.Common.{◌≡◌, take, unsigned_abs}
use Rattle.leg_drc.specs.Steps.Reach.{greatest_by}
use Rattle.leg_drc.proofs.reach.row_reach.Given as goal

abbrev pub invariant-loop-value : goal.invariant-loop-value
invariant-loop-value g l = l.found ≡ greatest_by unsigned_abs (take l.value-index l.value-items)
