-- The stretches so far begin before the end of the sites.
use Rattle.leg_legal_sites.proofs.CutPoints.{DoBegin}
use Rattle.leg_legal_sites.proofs.take_sites.cut_end.Given as goal

abbrev pub invariant-loop-i : goal.invariant-loop-i
invariant-loop-i l = DoBegin l.free l.end l.i
