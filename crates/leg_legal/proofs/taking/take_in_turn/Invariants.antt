-- The components of the keys so far have taken their places.
use Rattle.leg_legal.specs.Steps.Boxes.{IsUnderWay}
use Rattle.leg_legal.proofs.taking.take_in_turn.Given as goal

abbrev pub invariant-loop-i : goal.invariant-loop-i
invariant-loop-i g l = IsUnderWay l.design l.keys l.i l.taken.items l.free
