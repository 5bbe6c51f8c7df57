-- What the nodes above have, or else the owner so far, is what the node has.
use Rattle.leg_legal_sites.proofs.SharedLists.{IsOwnerSoFar}
use Rattle.leg_legal_sites.proofs.shared_lists.owner_of.Given as goal

abbrev pub invariant-loop-above : goal.invariant-loop-above
invariant-loop-above g l = IsOwnerSoFar l.lists l.node l.owner l.above

abbrev pub decreases-loop-above : goal.decreases-loop-above
decreases-loop-above g l = l.above
