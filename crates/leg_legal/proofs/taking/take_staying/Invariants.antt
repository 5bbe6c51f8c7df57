-- The boxes of the components so far that stay are taken.
use Rattle.leg_legal.specs.Steps.Boxes.{KnowStaying}
use Rattle.leg_legal.proofs.taking.take_staying.Given as goal

abbrev pub invariant-loop-i : goal.invariant-loop-i
invariant-loop-i g l = KnowStaying l.design l.i l.free
