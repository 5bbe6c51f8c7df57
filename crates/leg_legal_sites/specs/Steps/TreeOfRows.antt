-- A tree over the rows in their order. Its nodes are numbered from 1 on; below node n are 2 n and 2 n + 1, and where there are as many
-- rows as `length order`, the leaf of the row at place k of the order is node `length order + k`.
use Rattle.std.specs.Prelude.{◌≡◌, ◌⊎◌, ℕ, zero, suc, ◌+◌, ◌*◌, ◌≤◌, List, length, Some, slice_get}
use Rattle.leg_legal_sites.specs.declared.bounds.Bounds.{Bounds}
use Rattle.leg_legal_sites.specs.declared.row_keys.RowKey.{RowKey}

-- a node lies so many levels beneath another
abbrev pub IsLevelsBeneath : ℕ → ℕ → ℕ → Type 0
IsLevelsBeneath zero node other = other ≡ node
IsLevelsBeneath (suc levels) node other = IsLevelsBeneath levels (2 * node) other ⊎ IsLevelsBeneath levels (2 * node + 1) other

-- a row's leaf lies beneath a node, or is it
pub record IsLeafBeneath (order : List RowKey) (node : ℕ) (key : RowKey) : Type 0 where
  pub place : ℕ
  pub there : slice_get order place ≡ Some key
  pub levels : ℕ
  pub beneath : IsLevelsBeneath levels node (length order + place)

-- each node fits the rows whose leaves lie beneath it, or are it
abbrev pub DoAllFit : List RowKey → (Bounds → ℕ → Type 0) → List Bounds → Type 0
DoAllFit order Fits nodes =
    (node : ℕ) (bounds : Bounds) (key : RowKey) → 1 ≤ node → slice_get nodes node ≡ Some bounds → IsLeafBeneath order node key → Fits bounds key.row

-- the nodes of the tree
pub record AreNodes (order : List RowKey) (Fits : Bounds → ℕ → Type 0) (nodes : List Bounds) : Type 0 where
  pub count : length nodes ≡ 2 * length order
  pub fit : DoAllFit order Fits nodes
