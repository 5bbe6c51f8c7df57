-- Nodes of the tree on the way down, with what is known of the rows beneath.
use Rattle.std.specs.Prelude.{◌≡◌, ◌⊎◌, ℕ, ◌*◌, ◌<◌, ◌≤◌, List, length, Option, None, IsSome, get_or, slice_get, Some}
use Rattle.leg_design_records.specs.Records.{DesignModel}
use Rattle.leg_legal_sites.specs.declared.stretch.Stretch.{Stretch}
use Rattle.leg_legal_sites.specs.declared.bounds.Bounds.{Bounds}
use Rattle.leg_legal_sites.specs.declared.branch.Branch.{Branch}
use Rattle.leg_legal_sites.specs.declared.row_keys.RowKey.{RowKey}
use Rattle.leg_legal_sites.specs.Steps.FreeListSharing.{list_of_node, row_lists}
use Rattle.leg_legal_sites.specs.Steps.TreeOfRows.{IsLeafBeneath}
use Rattle.leg_legal_sites.specs.Steps.FreeLists.{DoFit}
use Rattle.leg_legal_sites.specs.Steps.Bounds.{AreOfBoth}

-- the owner's list is that of the rows beneath the node, as far as it is known, and the bounds fit them
pub record IsBranch (design : DesignModel) (order : List RowKey) (lists : List (Option (List Stretch))) (branch : Branch) : Type 0 where
  pub first : 1 ≤ branch.node
  pub within : branch.node < 2 * length order
  pub owned : branch.owner < 2 * length order
  pub owner : get_or lists branch.owner None ≡ list_of_node lists branch.node
  pub fits : (key : RowKey) → IsLeafBeneath order branch.node key → DoFit design (row_lists order lists) branch.bounds key.row

-- a branch goes on to the node of this number: with the same owner, if that has a list, and with the node's own bounds, or those that both had
pub record IsLowerBranch (lists : List (Option (List Stretch))) (nodes : List Bounds) (above : Branch) (node : ℕ) (branch : Branch) : Type 0 where
  pub here : branch.node ≡ node
  pub owner : (IsSome (get_or lists above.owner None) × (branch.owner ≡ above.owner)) ⊎ ((get_or lists above.owner None ≡ None) × (branch.owner ≡ node))
  pub bounds : (own : Bounds) → slice_get nodes node ≡ Some own → AreOfBoth own above.bounds branch.bounds ⊎ (branch.bounds ≡ own)
