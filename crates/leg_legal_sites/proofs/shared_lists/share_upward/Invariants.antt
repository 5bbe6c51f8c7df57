-- The lists of nodes from this number on are put together.
use Rattle.leg_legal_sites.specs.Steps.SharedLists.{IsSharedFrom}
use Rattle.leg_legal_sites.proofs.shared_lists.share_upward.Given as goal

abbrev pub invariant-loop-node : goal.invariant-loop-node
invariant-loop-node g l = IsSharedFrom l.order l.node l.initial.lists l.lists
