-- Whatever fits lies in a stretch that is still to come.
use Rattle.leg_legal_sites.proofs.LastFits.{IsPassedDown}
use Rattle.leg_legal_sites.proofs.part_search.last_upto.Given as goal

abbrev pub invariant-loop-i : goal.invariant-loop-i
invariant-loop-i l = IsPassedDown l.free l.many l.most l.i
