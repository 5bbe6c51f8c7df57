-- The best position so far is the best one in the rows that were looked at.
use Rattle.leg_legal_sites.specs.Steps.FreeListSharing.{row_lists}
use Rattle.leg_legal_sites.proofs.RowsAround.{IsSearched}
use Rattle.leg_legal_sites.proofs.near_rows.best_nearby.Given as goal

abbrev pub invariant-loop : goal.invariant-loop
invariant-loop g l = IsSearched l.design.rows l.order (row_lists l.order l.lists) l.wanted l.low l.high l.best
