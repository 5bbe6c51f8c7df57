-- Lists of free sites at the nodes of the tree, which are made, shared and handed down.
use Rattle.std.specs.Prelude.{◌≡◌, ◌⊎◌, ◌↔◌, ℕ, ◌+◌, ◌*◌, ◌<◌, ◌≤◌, ◌<ℤ◌, ◌+ℤ◌, List, [], length, Option, None, Some, IsSome, get_or, slice_get, Contains, unwrap_or}
use Rattle.leg_geom.specs.Plane.{RectModel, ShareSquare}
use Rattle.leg_lib_records.specs.Measure.{ExtentModel}
use Rattle.leg_lib_records.specs.declared.records.Site.{Site}
use Rattle.leg_design_records.specs.declared.records.Row.{Row}
use Rattle.leg_design_records.specs.Records.{DesignModel}
use Rattle.leg_legal_sites.specs.declared.stretch.Stretch.{Stretch}
use Rattle.leg_rules.specs.Placement.Sites.{site_box}
use Rattle.leg_legal_sites.specs.declared.bounds.Bounds.{Bounds}
use Rattle.leg_legal_sites.specs.declared.row_keys.RowKey.{RowKey}
use Rattle.leg_legal_sites.specs.Steps.Stretches.{IsFreeSite}
use Rattle.leg_legal_sites.specs.Steps.ClearSites.{IsFreeList}
use Rattle.leg_legal_sites.specs.Steps.TreeOfRows.{IsLeafBeneath}
use Rattle.leg_legal_sites.specs.Steps.FreeLists.{IsRowAt}
use Rattle.leg_legal_sites.specs.Steps.FreeListSharing.{row_lists}

-- the free sites of a node's own list, and none where it has no list
abbrev pub own_list : List (Option (List Stretch)) → ℕ → List Stretch
own_list lists node = unwrap_or (get_or lists node None) []

-- the rows beneath a node are of one site, and begin at one x
abbrev pub HaveAlikeLists : List RowKey → ℕ → Type 0
HaveAlikeLists order node = (a b : RowKey) → IsLeafBeneath order node a → IsLeafBeneath order node b → (a.x ≡ b.x) × (a.site ≡ b.site)

-- there is room for a list at each node, and the rows beneath one that has a list are alike
pub record AreShared (order : List RowKey) (lists : List (Option (List Stretch))) : Type 0 where
  pub count : length lists ≡ 2 * length order
  pub alike : (node : ℕ) (list : List Stretch) → 1 ≤ node → get_or lists node None ≡ Some list → HaveAlikeLists order node

-- no node above the leaves has a list
abbrev pub HaveNoneAbove : List RowKey → List (Option (List Stretch)) → Type 0
HaveNoneAbove order lists = (node : ℕ) → node < length order → get_or lists node None ≡ None

-- no node before this one has a list
abbrev pub HaveNoneBefore : ℕ → List (Option (List Stretch)) → Type 0
HaveNoneBefore highest lists = (node : ℕ) → node < highest → get_or lists node None ≡ None

-- those are the lists, and no node before this one has one
pub record AreListsFrom (highest : ℕ) (order : List RowKey) (lists : List (Option (List Stretch))) : Type 0 where
  pub shared : AreShared order lists
  pub none : HaveNoneBefore highest lists

-- so many nodes have no list
pub record HaveNone (many : ℕ) (lists : List (Option (List Stretch))) : Type 0 where
  pub count : length lists ≡ many
  pub none : (node : ℕ) → get_or lists node None ≡ None

-- the leaves of the rows before a place have exactly their sites in the die, and no other node has a list
pub record AreLeafLists (design : DesignModel) (order : List RowKey) (end : ℕ) (lists : List (Option (List Stretch))) : Type 0 where
  pub count : length lists ≡ length order + end
  pub above : (node : ℕ) → node < length order → get_or lists node None ≡ None
  pub each : (place : ℕ) (key : RowKey) (row : Row) (site : Site) → place < end → slice_get order place ≡ Some key → IsRowAt design key.row row site
      → (list : List Stretch) × (get_or lists (length order + place) None ≡ Some list) × IsFreeList row site.size design.die (Contains []) list

-- both nodes below one have the same list, and the rows beneath it are alike
pub record IsShareable (order : List RowKey) (lists : List (Option (List Stretch))) (node : ℕ) : Type 0 where
  pub list : List Stretch
  pub left : get_or lists (2 * node) None ≡ Some list
  pub right : get_or lists (2 * node + 1) None ≡ Some list
  pub alike : HaveAlikeLists order node

-- the lists of nodes from a number on are put together, and all rows have the same free sites as before
pub record IsSharedFrom (order : List RowKey) (from : ℕ) (old new : List (Option (List Stretch))) : Type 0 where
  pub shared : AreShared order new
  pub same : row_lists order new ≡ row_lists order old
  pub none : (node : ℕ) → node < from → get_or new node None ≡ None

-- of some free sites those are left that share no unit square with the rectangle, in this row
abbrev pub LosesShared : RectModel → Row → ExtentModel → List Stretch → List Stretch → Type 0
LosesShared rect row size old new = (k : ℕ) → IsFreeSite new k ↔ (IsFreeSite old k × ¬ ShareSquare rect (site_box row size k))

-- the rectangle meets each row beneath a node along y that lies within these bounds
pub record IsMetAlongY (design : DesignModel) (rect : RectModel) (order : List RowKey) (node : ℕ) (bounds : Bounds) : Type 0 where
  pub high : bounds.high <ℤ rect.y2
  pub low : (key : RowKey) (row : Row) (site : Site) → IsLeafBeneath order node key → IsRowAt design key.row row site
      → rect.y1 <ℤ (bounds.low +ℤ site.size.height)

-- the rows beneath a node lose the same sites: there is one, or they have one list together and the rectangle meets all of them along y
abbrev pub IsMetThroughout : DesignModel → RectModel → List RowKey → List (Option (List Stretch)) → List Bounds → ℕ → Type 0
IsMetThroughout design rect order lists nodes node =
    (length order ≤ node) ⊎ ((IsSome (get_or lists node None))
    × ((bounds : Bounds) → slice_get nodes node ≡ Some bounds → IsMetAlongY design rect order node bounds))
