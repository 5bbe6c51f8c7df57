-- The table stays as large.
use Rattle.std.proofs.Common.{◌≡◌}
use Rattle.leg_finish_search.proofs.search.find.Given as goal

abbrev pub invariant-loop : goal.invariant-loop
invariant-loop g l = l.table ≡ l.fn.table
