-- Whatever fits lies in a stretch that is still to come.
use Rattle.leg_legal_sites.proofs.FirstFits.{IsPassed}
use Rattle.leg_legal_sites.proofs.part_search.first_from.Given as goal

abbrev pub invariant-loop-i : goal.invariant-loop-i
invariant-loop-i l = IsPassed l.free l.many l.least l.i
