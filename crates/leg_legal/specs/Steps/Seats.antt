-- What a movable component asks of a position, and its best place where some boxes are in the way.
use Rattle.std.specs.Prelude.{◌≡◌, ℕ, pos, ◌*ℤ◌, List, Contains, Option, None, Some, slice_get}
use Rattle.leg_geom.specs.Plane.{RectModel}
use Rattle.leg_geom.specs.declared.place.Place.{Place}
use Rattle.leg_lib_records.specs.declared.records.Site.{Site}
use Rattle.leg_lib_records.specs.Measure.{IsExtent}
use Rattle.leg_lib_records.specs.Records.{MasterModel}
use Rattle.leg_design_records.specs.Records.{DesignModel}
use Rattle.leg_design_records.specs.declared.records.Component.{Component}
use Rattle.leg_rules.specs.Placement.Box.{placed_box}
use Rattle.leg_rules.specs.declared.position.Candidate.{Candidate}
use Rattle.leg_legal_sites.specs.declared.candidate.Wanted.{Wanted}
use Rattle.leg_rules.specs.Legalise.Preference.{IsNoWorse}
use Rattle.leg_rules.specs.Legalise.Clear.{IsClear}
use Rattle.leg_legal_sites.specs.Steps.FreeLists.{RowLists, AreFreeLists}
use Rattle.leg_rules.specs.Legalise.Start.{start_of}
use Rattle.leg_rules.specs.Legalise.Places.{orient_if_placed, IsPlacedOn}

-- what component c asks: from its start, as many sites as its macro is wide, of its macro's site
pub record IsWantedOf (design : DesignModel) (c : ℕ) (wanted : Wanted) : Type 0 where
  pub component : Component
  pub there : slice_get design.components c ≡ Some component
  pub master : MasterModel
  pub is_master : slice_get design.library.masters component.master ≡ Some master
  pub same : master.site ≡ Some wanted.site
  pub site : Site
  pub is_site : slice_get design.library.sites wanted.site ≡ Some site
  pub area : IsExtent site.size
  pub has_area : IsExtent master.size
  pub high : master.size.height ≡ site.size.height
  pub wide : master.size.width ≡ pos wanted.many *ℤ site.size.width
  pub site_width : wanted.site_width ≡ site.size.width
  pub start : wanted.start ≡ start_of design.die component.place
  pub orient : wanted.orient ≡ orient_if_placed component.place
  pub y_symmetric : wanted.y_symmetric ≡ master.y_symmetric

-- with this place component c is at the position, and its box is clear of the boxes
pub record IsFreeOf (design : DesignModel) (boxes : List RectModel) (c : ℕ) (position : Candidate) (place : Place) : Type 0 where
  pub stands : IsPlacedOn design c position place
  pub clear : IsClear design.die (Contains boxes) (placed_box stands.master.size place)

-- the place is that of a free position, and no free one is better
pub record IsBestAmong (design : DesignModel) (boxes : List RectModel) (c : ℕ) (place : Place) : Type 0 where
  pub position : Candidate
  pub free : IsFreeOf design boxes c position place
  pub best : (other : Candidate) (at : Place) → IsFreeOf design boxes c other at → IsNoWorse position other

-- the best place of component c, or that it has none
abbrev pub IsBestPlace : DesignModel → List RectModel → ℕ → Option Place → Type 0
IsBestPlace design boxes c None = (position : Candidate) (place : Place) → ¬ IsFreeOf design boxes c position place
IsBestPlace design boxes c (Some place) = IsBestAmong design boxes c place

-- some component asks this, and the lists are those that some boxes have left
pub record AreToBeAsked (design : DesignModel) (free : RowLists) (wanted : Wanted) : Type 0 where
  pub c : ℕ
  pub asks : IsWantedOf design c wanted
  pub boxes : List RectModel
  pub known : AreFreeLists design boxes free
