-- The free sites of all rows of a design, once some boxes are in the way (lefdef's own rule).
use Rattle.std.specs.Prelude.{◌≡◌, ℕ, List, length, Some, slice_get, Contains}
use Rattle.leg_geom.specs.Plane.{RectModel}
use Rattle.leg_lib_records.specs.declared.records.Site.{Site}
use Rattle.leg_design_records.specs.declared.records.Row.{Row}
use Rattle.leg_design_records.specs.Records.{DesignModel}
use Rattle.leg_rules.specs.Placement.Sites.{site_box}
use Rattle.leg_legal_sites.specs.declared.stretch.Stretch.{Stretch}
use Rattle.leg_legal_sites.specs.declared.bounds.Bounds.{Bounds}
use Rattle.leg_legal_sites.specs.declared.row_keys.RowKey.{RowKey}
use Rattle.leg_legal_sites.specs.declared.candidate.Wanted.{Wanted}
use Rattle.leg_legal_sites.specs.Steps.Stretches.{IsFreeSite}
use Rattle.leg_legal_sites.specs.Steps.RowOrder.{IsRowOrder}
use Rattle.leg_rules.specs.Legalise.Clear.{HasAllSquares}
use Rattle.leg_legal_sites.specs.Steps.SiteBounds.{DoBound}
use Rattle.leg_legal_sites.specs.Steps.ClearSites.{IsFreeList}
use Rattle.leg_legal_sites.specs.Steps.TreeOfRows.{AreNodes}

-- a list of free stretches for each row, the keys of the rows, and the nodes of a tree over them
pub record RowLists : Type 0 where
  pub lists : List (List Stretch)
  pub order : List RowKey
  pub nodes : List Bounds

-- the row of this number, and its site
pub record IsRowAt (design : DesignModel) (number : ℕ) (row : Row) (site : Site) : Type 0 where
  pub there : slice_get design.rows number ≡ Some row
  pub sited : slice_get design.library.sites row.site ≡ Some site

-- each free site of the row of this number lies in the die
abbrev pub AreInDie : DesignModel → ℕ → List Stretch → Type 0
AreInDie design number list =
    (row : Row) (site : Site) → IsRowAt design number row site → (k : ℕ) → IsFreeSite list k → HasAllSquares design.die (site_box row site.size k)

-- that holds of all rows
abbrev pub AreAllInDie : DesignModel → List (List Stretch) → Type 0
AreAllInDie design lists = (number : ℕ) (list : List Stretch) → slice_get lists number ≡ Some list → AreInDie design number list

-- the numbers bound the free sites of the row of this number
abbrev pub DoBoundRow : DesignModel → Bounds → ℕ → List Stretch → Type 0
DoBoundRow design bounds number list = (row : Row) (site : Site) → IsRowAt design number row site → DoBound bounds number row site.size list

-- that holds of the list at this number
abbrev pub DoFit : DesignModel → List (List Stretch) → Bounds → ℕ → Type 0
DoFit design lists bounds number = (list : List Stretch) → slice_get lists number ≡ Some list → DoBoundRow design bounds number list

-- There is one list for each row of the design, of sites in the die, and the keys are those of its rows in order. Each
-- node of the tree bounds the rows beneath it.
pub record AreRowsOf (design : DesignModel) (free : RowLists) : Type 0 where
  pub lists : length free.lists ≡ length design.rows
  pub inside : AreAllInDie design free.lists
  pub order : IsRowOrder design.rows free.order
  pub nodes : AreNodes free.order (DoFit design free.lists) free.nodes

-- the component takes sites to be as wide as those of its site are
abbrev pub IsOfItsSite : DesignModel → Wanted → Type 0
IsOfItsSite design wanted = (site : Site) → slice_get design.library.sites wanted.site ≡ Some site → site.size.width ≡ wanted.site_width

-- each row's list has exactly its sites that are clear of the boxes
pub record AreFreeLists (design : DesignModel) (boxes : List RectModel) (free : RowLists) : Type 0 where
  pub rows : AreRowsOf design free
  pub each : (number : ℕ) (row : Row) (site : Site) (list : List Stretch) → IsRowAt design number row site → slice_get free.lists number ≡ Some list
      → IsFreeList row site.size design.die (Contains boxes) list
