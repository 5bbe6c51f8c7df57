-- The nodes so far are those of the same rows.
use Rattle.leg_legal_sites.proofs.OnlyRow.{AreJoinedAbove}
use Rattle.leg_legal_sites.proofs.only_row.join_above.Given as goal

abbrev pub invariant-loop-above : goal.invariant-loop-above
invariant-loop-above l = AreJoinedAbove l.order l.initial.nodes l.above l.nodes

abbrev pub decreases-loop-above : goal.decreases-loop-above
decreases-loop-above l = l.above
