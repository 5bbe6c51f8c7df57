-- The leaves of the rows so far.
use Rattle.leg_legal_sites.specs.Steps.FreeLists.{DoFit}
use Rattle.leg_legal_sites.specs.Steps.FreeListSharing.{row_lists}
use Rattle.leg_legal_sites.specs.Steps.RowTree.{AreLeavesUpTo}
use Rattle.leg_legal_sites.proofs.row_tree.with_leaves.Given as goal

abbrev pub invariant-loop-key : goal.invariant-loop-key
invariant-loop-key g l = AreLeavesUpTo l.order (DoFit l.design (row_lists l.order l.lists)) l.key-index l.nodes.items
