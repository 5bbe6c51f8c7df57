-- The tree over the rows while it is made.
use Rattle.std.specs.Prelude.{◌≡◌, ◌⊎◌, ℕ, ◌+◌, ◌*◌, ◌<◌, ◌≤◌, List, length, Some, slice_get}
use Rattle.leg_legal_sites.specs.declared.bounds.Bounds.{Bounds}
use Rattle.leg_legal_sites.specs.declared.row_keys.RowKey.{RowKey}
use Rattle.leg_legal_sites.specs.Steps.Bounds.{DoCover}

-- the leaves of the rows before a place fit these, and no later node is made
pub record AreLeavesUpTo (order : List RowKey) (Fits : Bounds → ℕ → Type 0) (end : ℕ) (nodes : List Bounds) : Type 0 where
  pub count : length nodes ≡ length order + end
  pub fit : (place : ℕ) (key : RowKey) (bounds : Bounds) → place < end → slice_get order place ≡ Some key
      → slice_get nodes (length order + place) ≡ Some bounds → Fits bounds key.row

-- each node from one number up to the first leaf covers the two below it, and the leaves are as they were
pub record AreJoinedFrom (leaves from : ℕ) (old new : List Bounds) : Type 0 where
  pub count : length new ≡ length old
  pub kept : (node : ℕ) → leaves ≤ node → slice_get new node ≡ slice_get old node
  pub cover : (node : ℕ) (outer inner : Bounds) → from ≤ node → node < leaves → slice_get new node ≡ Some outer
      → (slice_get new (2 * node) ≡ Some inner) ⊎ (slice_get new (2 * node + 1) ≡ Some inner) → DoCover outer inner
