-- Whether a component is on sites of a row (LEF/DEF 5.8, "Rows", "Site"; which orientations fit a row is lefdef's own rule).
use Rattle.std.specs.Prelude.{◌≡◌, ◌↔◌, ◌⊎◌, ℕ, pos, Bool, ◌+◌, ◌<◌, ◌≤◌, ◌≤ℤ◌, ◌+ℤ◌, ◌*ℤ◌, Some, slice_get, Contains, IsTrue}
use Rattle.leg_geom.specs.Plane.{PointModel, RectModel, HasSquare}
use Rattle.leg_geom.specs.Orientation.{IsMirrored}
use Rattle.leg_geom.specs.declared.orient.Orient.{Orient}
use Rattle.leg_geom.specs.declared.place.Place.{Place}
use Rattle.leg_lib_records.specs.Measure.{ExtentModel}
use Rattle.leg_lib_records.specs.Records.{LibraryModel, MasterModel}
use Rattle.leg_lib_records.specs.declared.records.Site.{Site}
use Rattle.leg_design_records.specs.Records.{DesignModel}
use Rattle.leg_design_records.specs.declared.records.Component.{Component}
use Rattle.leg_design_records.specs.declared.records.Row.{Row}
use Rattle.leg_rules.specs.Placement.Box.{placed_box}

-- site k of a row of sites of this size, from 0; rows aren't turned, so a site's width lies along x
abbrev pub site_box : Row → ExtentModel → ℕ → RectModel
site_box row size k =
    record { x1 = row.at.x +ℤ pos k *ℤ size.width; y1 = row.at.y; x2 = row.at.x +ℤ pos (k + 1) *ℤ size.width; y2 = row.at.y +ℤ size.height }

-- one of this many consecutive sites of the row, from the first on, has the unit square
pub record SitesHave (row : Row) (size : ExtentModel) (first many : ℕ) (square : PointModel) : Type 0 where
  pub k : ℕ
  pub from : first ≤ k
  pub below : k < first + many
  pub inside : HasSquare (site_box row size k) square

-- consecutive sites of the row have together exactly the unit squares of the box
pub record IsOnSites (row : Row) (size : ExtentModel) (box : RectModel) : Type 0 where
  pub first : ℕ
  pub many : ℕ
  pub within : pos (first + many) ≤ℤ row.count
  pub squares : (square : PointModel) → HasSquare box square ↔ SitesHave row size first many square

-- an orientation fits a row if it is the row's, or for a macro with Y symmetry the row's mirrored on the y axis
abbrev pub Fits : Orient → Bool → Orient → Type 0
Fits row y_symmetric orient = (orient ≡ row) ⊎ (IsTrue y_symmetric × IsMirrored row orient)

-- a macro at a place is on sites of the row, which are of the site of this number
pub record IsOnRow (library : LibraryModel) (master : MasterModel) (number : ℕ) (place : Place) (row : Row) : Type 0 where
  pub same : row.site ≡ number
  pub site : Site
  pub there : slice_get library.sites number ≡ Some site
  pub fits : Fits row.orient master.y_symmetric place.orient
  pub sites : IsOnSites row site.size (placed_box master.size place)

-- component c is placed, its macro has a SITE, and it is on the sites of no row
pub record IsOffSite (design : DesignModel) (c : ℕ) : Type 0 where
  pub component : Component
  pub there : slice_get design.components c ≡ Some component
  pub place : Place
  pub placed : component.place ≡ Some place
  pub master : MasterModel
  pub is_master : slice_get design.library.masters component.master ≡ Some master
  pub number : ℕ
  pub site : master.site ≡ Some number
  pub none : (row : Row) → Contains design.rows row → ¬ IsOnRow design.library master number place row
