-- The table stays as large.
use Rattle.std.proofs.Common.{◌≡◌}
use Rattle.leg_finish_search.proofs.turn.set_waiting_ends.Given as goal

abbrev pub invariant-loop-k : goal.invariant-loop-k
invariant-loop-k g l = l.table ≡ l.fn.table
