-- The nodes so far have no list.
use Rattle.leg_legal_sites.specs.Steps.SharedLists.{HaveNone}
use Rattle.leg_legal_sites.proofs.rows_inside.no_lists.Given as goal

abbrev pub invariant-loop : goal.invariant-loop
invariant-loop g l = HaveNone l.counter l.lists.items
