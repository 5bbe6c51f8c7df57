-- The node lies beneath the first one.
use Rattle.std.proofs.Common.{◌-◌, length}
use Rattle.leg_legal_sites.proofs.SharedLists.{IsOnWayDown}
use Rattle.leg_legal_sites.proofs.shared_lists.key_beneath.Given as goal

abbrev pub invariant-loop-leaf : goal.invariant-loop-leaf
invariant-loop-leaf l = IsOnWayDown (length l.order) l.node l.leaf

abbrev pub decreases-loop-leaf : goal.decreases-loop-leaf
decreases-loop-leaf l = length l.order - l.leaf
