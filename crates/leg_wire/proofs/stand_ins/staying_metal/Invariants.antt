-- The metal so far of the pieces that stay, and for each kind a shape of it.
use Rattle.leg_wire.specs.Steps.JoinSteps.{IsStayingMetal, AreLatest}
use Rattle.leg_wire.proofs.stand_ins.staying_metal.Given as goal

abbrev pub invariant-loop-k : goal.invariant-loop-k
invariant-loop-k g l = record {
  latest : AreLatest l.kinds l.rest.items l.latest.items;
  rest : IsStayingMetal l.metal l.kinds l.staying l.k l.rest.items;
}
