-- A mark for each piece, by the shapes so far.
use Rattle.std.proofs.Common.{◌≡◌, length}
use Rattle.leg_wire.specs.Steps.JoinSteps.{AreStaying}
use Rattle.leg_wire.proofs.stand_ins.which_stay.Given as goal

abbrev pub invariant-loop-k : goal.invariant-loop-k
invariant-loop-k g l = record {
  count : length l.staying.items ≡ length l.stand_ins;
  staying : AreStaying l.metal l.kinds l.numbers l.stand_ins l.k l.staying.items;
}
