-- The nodes from this number on cover those below them.
use Rattle.leg_legal_sites.specs.Steps.RowTree.{AreJoinedFrom}
use Rattle.leg_legal_sites.proofs.row_tree.join_upward.Given as goal

abbrev pub invariant-loop-node : goal.invariant-loop-node
invariant-loop-node l = AreJoinedFrom l.leaves l.node l.initial.nodes l.nodes
