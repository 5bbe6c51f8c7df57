-- The sites of the rows of a design.
use Rattle.std.specs.Prelude.{◌≡◌, ℕ, pos, Bool, ◌<◌, ◌≤ℤ◌, ◌+ℤ◌, ◌*ℤ◌, List, slice_get, Some, All, AllPairs, Contains, IsTrue}
use Rattle.leg_geom.specs.Plane.{RectModel}
use Rattle.leg_geom.specs.declared.orient.Orient.{Orient}
use Rattle.leg_geom.specs.declared.place.Place.{Place}
use Rattle.leg_lib_records.specs.Measure.{ExtentModel}
use Rattle.leg_lib_records.specs.Records.{LibraryModel, MasterModel}
use Rattle.leg_lib_records.specs.declared.records.Site.{Site}
use Rattle.leg_design_records.specs.Records.{DesignModel}
use Rattle.leg_design_records.specs.declared.records.Row.{Row}
use Rattle.leg_place.specs.declared.site_span.SiteSpan.{SiteSpan}
use Rattle.leg_rules.specs.Placement.Sites.{Fits, IsOnRow}
use Rattle.leg_place.specs.Steps.SiteSpan.{span_of, row_box, covers, begins_by}

-- the sites of a row
pub record IsRowSpan (library : LibraryModel) (row : Row) (span : SiteSpan) : Type 0 where
  pub site : Site
  pub there : slice_get library.sites row.site ≡ Some site
  pub is : span ≡ span_of row.site site.size row.orient (row_box row site.size)

-- those of one of these rows, which has some
pub record IsOfSomeRow (library : LibraryModel) (rows : List Row) (span : SiteSpan) : Type 0 where
  pub row : Row
  pub has : Contains rows row
  pub some : pos 1 ≤ℤ row.count
  pub is : IsRowSpan library row span

-- the sites of each of the rows whose numbers are below end
pub record AreSpansBelow (library : LibraryModel) (rows : List Row) (end : ℕ) (spans : List SiteSpan) : Type 0 where
  pub each : All (IsOfSomeRow library rows) spans
  pub all : (number : ℕ) (row : Row) (span : SiteSpan) → number < end → slice_get rows number ≡ Some row → IsRowSpan library row span → Contains spans span

-- the order of the spans that are kept: within a line those that begin later reach further
pub record Precedes (a b : SiteSpan) : Type 0 where
  pub begins : IsTrue (begins_by a b)
  pub reaches : a.line ≡ b.line → a.right ≤ℤ b.right

-- one of the spans has all sites of another span
pub record IsCovered (spans : List SiteSpan) (wanted : SiteSpan) : Type 0 where
  pub span : SiteSpan
  pub has : Contains spans span
  pub has_all : IsTrue (covers span wanted)

-- spans of rows, in order, which have among them the sites of each row
pub record AreRowSpans (library : LibraryModel) (rows : List Row) (spans : List SiteSpan) : Type 0 where
  pub each : All (IsOfSomeRow library rows) spans
  pub all : (row : Row) (span : SiteSpan) → Contains rows row → IsRowSpan library row span → IsCovered spans span
  pub in_order : AllPairs Precedes spans

-- a box is as high as a site of this size, and as wide as a number of them
pub record IsWhole (size : ExtentModel) (box : RectModel) : Type 0 where
  pub high : box.y2 ≡ box.y1 +ℤ size.height
  pub many : ℕ
  pub wide : box.x2 ≡ box.x1 +ℤ pos many *ℤ size.width

-- one of the spans has the sites of this number and size from the box's left edge to its right one, in an orientation
-- that this one fits
pub record HasSites (spans : List SiteSpan) (number : ℕ) (size : ExtentModel) (box : RectModel) (orient : Orient) (y_symmetric : Bool) : Type 0 where
  pub row_orient : Orient
  pub fits : Fits row_orient y_symmetric orient
  pub covered : IsCovered spans (span_of number size row_orient box)

-- a macro of this site is on the sites of some row when it is at this place
pub record IsOnSomeRow (design : DesignModel) (master : MasterModel) (number : ℕ) (place : Place) : Type 0 where
  pub row : Row
  pub has : Contains design.rows row
  pub on : IsOnRow design.library master number place row
