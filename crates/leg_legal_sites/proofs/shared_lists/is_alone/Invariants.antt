-- If the nodes that are left have no list, none above the node has.
use Rattle.leg_legal_sites.proofs.SharedLists.{IsAloneUpTo}
use Rattle.leg_legal_sites.proofs.shared_lists.is_alone.Given as goal

abbrev pub invariant-loop-above : goal.invariant-loop-above
invariant-loop-above g l = IsAloneUpTo l.lists l.node l.above

abbrev pub decreases-loop-above : goal.decreases-loop-above
decreases-loop-above g l = l.above
