-- The leaves of the rows so far.
use Rattle.leg_legal_sites.specs.Steps.SharedLists.{AreLeafLists}
use Rattle.leg_legal_sites.proofs.rows_inside.rows_inside.Given as goal

abbrev pub invariant-loop-key : goal.invariant-loop-key
invariant-loop-key g l = AreLeafLists l.design l.order l.key-index l.lists.items
