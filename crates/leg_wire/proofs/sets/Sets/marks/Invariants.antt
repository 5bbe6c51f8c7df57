-- The numbers so far have their marks.
use Rattle.leg_wire.proofs.SetUnions.{AreMarksSoFar}
use Rattle.leg_wire.proofs.sets.Sets.marks.Given as goal

abbrev pub invariant-loop-number : goal.invariant-loop-number
invariant-loop-number g l = AreMarksSoFar l.parents l.number l.marks.items
