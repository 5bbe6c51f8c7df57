use Rattle.std.proofs.Common.{◌≡◌, take}
use Rattle.leg_drc.specs.Steps.NearRule.{greatest}
use Rattle.leg_drc.proofs.reach.greatest.Given as goal

abbrev pub invariant-loop-reach : goal.invariant-loop-reach
invariant-loop-reach l = l.found ≡ greatest (take l.reach-index l.reaches)
