-- The table stays as large.
use Rattle.std.proofs.Common.{◌≡◌}
use Rattle.leg_finish_search.proofs.turn.next_way.Given as goal

abbrev pub invariant-loop-source : goal.invariant-loop-source
invariant-loop-source g l = l.table ≡ l.fn.table
