-- No node so far has a list.
use Rattle.std.proofs.Common.{◌-◌, length}
use Rattle.leg_legal_sites.specs.Steps.SharedLists.{HaveNoneBefore}
use Rattle.leg_legal_sites.proofs.shared_lists.highest_from.Given as goal

abbrev pub invariant-loop-node : goal.invariant-loop-node
invariant-loop-node g l = HaveNoneBefore l.node l.lists

abbrev pub decreases-loop-node : goal.decreases-loop-node
decreases-loop-node g l = length l.order - l.node
