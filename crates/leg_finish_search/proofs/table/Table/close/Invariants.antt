-- The table stays as large.
use Rattle.std.proofs.Common.{◌≡◌}
use Rattle.leg_finish_search.proofs.table.Table.close.Given as goal

abbrev pub invariant-loop-slot : goal.invariant-loop-slot
invariant-loop-slot g l = l.self ≡ l.fn.self
