-- The only row that a rectangle meets along y.
use Rattle.std.specs.Prelude.{◌≡◌, ◌≢◌, ◌⊎◌, ℕ, ◌<◌, ◌≤◌, ℤ, ◌+ℤ◌, ◌≤ℤ◌, List, length, Some, slice_get}
use Rattle.leg_geom.specs.Plane.{RectModel, IsCoordinate}
use Rattle.leg_lib_records.specs.declared.records.Site.{Site}
use Rattle.leg_design_records.specs.declared.records.Row.{Row}
use Rattle.leg_design_records.specs.Records.{DesignModel}
use Rattle.leg_legal_sites.specs.declared.row_keys.RowKey.{RowKey}
use Rattle.leg_legal_sites.specs.Steps.FreeLists.{IsRowAt}

-- no row lies below one before it
abbrev pub DoRise : List RowKey → Type 0
DoRise order = (i j : ℕ) (a b : RowKey) → i ≤ j → slice_get order i ≡ Some a → slice_get order j ≡ Some b → a.y ≤ℤ b.y

-- the sites of all rows are so high, and the rows stand from the lowest one up
pub record AreAllSoHigh (design : DesignModel) (order : List RowKey) (height : ℤ) : Type 0 where
  pub within : IsCoordinate height
  pub rise : DoRise order
  pub each : (number : ℕ) (row : Row) (site : Site) → IsRowAt design number row site → site.size.height ≡ height

-- of rows whose sites are so high the rectangle lies above each or below it, but for one
pub record IsOnlyMet (rect : RectModel) (order : List RowKey) (height : ℤ) (place : ℕ) : Type 0 where
  pub there : place < length order
  pub others : (k : ℕ) (key : RowKey) → k ≢ place → slice_get order k ≡ Some key → ((key.y +ℤ height) ≤ℤ rect.y1) ⊎ (rect.y2 ≤ℤ key.y)
