-- The violations of the components so far are listed.
use Rattle.leg_place.specs.Steps.ListPrefix.{IsListBefore}
use Rattle.leg_place.proofs.ComponentFaults.{number_of_kind}
use Rattle.leg_place.proofs.faults.push_each.Given as goal

abbrev pub invariant-loop-i : goal.invariant-loop-i
invariant-loop-i g l = IsListBefore l.design l.marks (number_of_kind l.kind) l.i l.found.items
