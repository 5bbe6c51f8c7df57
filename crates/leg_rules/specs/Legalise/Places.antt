-- How a component is placed on sites of a row (LEF/DEF 5.8, "Rows", "Site"; the orientation that it takes is lefdef's own rule).
use Rattle.std.specs.Prelude.{◌≡◌, ◌↔◌, ◌⊎◌, ℕ, pos, Bool, IsTrue, ◌+◌, ◌≤◌, ◌≤ℤ◌, ◌+ℤ◌, ◌*ℤ◌, Option, None, Some, slice_get, option_map}
use Rattle.leg_geom.specs.declared.orient.Orient.{Orient}
use Rattle.leg_geom.specs.declared.place.Place.{Place}
use Rattle.leg_lib_records.specs.declared.records.Site.{Site}
use Rattle.leg_lib_records.specs.Records.{MasterModel}
use Rattle.leg_design_records.specs.Records.{DesignModel}
use Rattle.leg_design_records.specs.declared.records.Component.{Component}
use Rattle.leg_design_records.specs.declared.records.Row.{Row}
use Rattle.leg_rules.specs.Placement.Sites.{Fits}
use Rattle.leg_rules.specs.declared.position.Candidate.{Candidate}
use Rattle.leg_rules.specs.Legalise.Preference.{IsTurned}
use Rattle.leg_rules.specs.Legalise.Start.{start_of, distance}

-- the orientation that a component has
abbrev pub orient_if_placed : Option Place → Option Orient
orient_if_placed place = option_map (λ at. at.orient) place

-- an orientation is kept where it fits the row, and else becomes the row's; a component without one takes the row's
abbrev pub Takes : Orient → Bool → Option Orient → Orient → Type 0
Takes row y_symmetric None orient = orient ≡ row
Takes row y_symmetric (Some old) orient = (Fits row y_symmetric old × (orient ≡ old)) ⊎ ((¬ Fits row y_symmetric old) × (orient ≡ row))

-- With this place component c is on consecutive sites of a row of its macro's site, all of which the row has: on as
-- many as its macro is wide, from the first one of the position on. The position also has how far it then is from its
-- start, and whether it is turned: whether its orientation has changed.
pub record IsPlacedOn (design : DesignModel) (c : ℕ) (position : Candidate) (place : Place) : Type 0 where
  pub component : Component
  pub there : slice_get design.components c ≡ Some component
  pub master : MasterModel
  pub is_master : slice_get design.library.masters component.master ≡ Some master
  pub row : Row
  pub is_row : slice_get design.rows position.row ≡ Some row
  pub same : master.site ≡ Some row.site
  pub site : Site
  pub is_site : slice_get design.library.sites row.site ≡ Some site
  pub high : master.size.height ≡ site.size.height
  pub many : ℕ
  pub some : 1 ≤ many
  pub wide : master.size.width ≡ pos many *ℤ site.size.width
  pub within : pos (position.first + many) ≤ℤ row.count
  pub at : place.at ≡ record { x = row.at.x +ℤ pos position.first *ℤ site.size.width; y = row.at.y }
  pub takes : Takes row.orient master.y_symmetric (orient_if_placed component.place) place.orient
  pub distance : position.distance ≡ distance place.at (start_of design.die component.place)
  pub turned : IsTrue position.turned ↔ IsTurned row.orient master.y_symmetric (orient_if_placed component.place)
