-- Those of the pairs so far that are of the kind are added.
use Rattle.std.proofs.Common.{take}
use Rattle.leg_wire.specs.Steps.PairViolations.{IsPairViolationOf}
use Rattle.leg_wire.specs.Steps.AddedFaults.{AreAdded}
use Rattle.leg_wire.proofs.spacing.push_pairs.Given as goal

abbrev pub invariant-loop-i : goal.invariant-loop-i
invariant-loop-i g l = AreAdded (IsPairViolationOf l.kind l.shapes (take l.i-index l.close)) l.fn.found.items l.found.items
