-- None of the components so far is unsuited.
use Rattle.leg_legal.proofs.Misfits.{NoneUnsuitedBelow}
use Rattle.leg_legal.proofs.unsuited.first_unsuited.Given as goal

abbrev pub invariant-loop-i : goal.invariant-loop-i
invariant-loop-i g l = NoneUnsuitedBelow l.design l.i
