-- The table stays as large.
use Rattle.std.proofs.Common.{◌≡◌}
use Rattle.leg_finish_search.proofs.turn.set_ends.Given as goal

abbrev pub invariant-loop-group : goal.invariant-loop-group
invariant-loop-group g l = l.table ≡ l.fn.table
