-- What is together is joined, and the shapes so far are with those that stand for their kinds.
use Rattle.std.proofs.Common.{length}
use Rattle.leg_wire.specs.Steps.JoinSteps.{AreSomeJoined, AreKept, AreTogetherAlike}
use Rattle.leg_wire.proofs.joining.unite_alike.Given as goal

abbrev pub invariant-loop-k : goal.invariant-loop-k
invariant-loop-k g l = record {
  some : AreSomeJoined l.metal (length l.initial.sets) l.sets;
  kept : AreKept l.initial.sets l.sets;
  alike : AreTogetherAlike l.metal l.kinds l.numbers l.k l.sets;
}
