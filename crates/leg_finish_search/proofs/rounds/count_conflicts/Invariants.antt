-- Nothing is kept.
use Rattle.leg_finish_search.proofs.rounds.count_conflicts.Given as goal

abbrev pub invariant-loop-net : goal.invariant-loop-net
invariant-loop-net g l = Unit {0}
