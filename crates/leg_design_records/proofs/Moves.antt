-- The components of a design stay well-formed where one of them moves.
use Rattle.std.proofs.Common.{◌≡◌, ℕ, List, Some, set, sym, subst, refl}
use Rattle.std.proofs.lemmas.List.{length-set}
use Rattle.std.proofs.lemmas.List.Elements.{All-get_or, All-set}
use Rattle.leg_lex.specs.NameLookup.{AreApart}
use Rattle.leg_design_records.proofs.OneOther.{IsPlacedOn, same_map}
use Rattle.leg_geom.specs.declared.place.Place.{Place}
use Rattle.leg_lib_records.specs.Records.{LibraryModel}
use Rattle.leg_design_records.specs.declared.records.Status.TheVariants.{Placed}
use Rattle.leg_design_records.specs.declared.records.Component.{Component}
use Rattle.leg_design_records.specs.Records.{DesignModel, component_names}
use Rattle.leg_design_records.specs.WellFormedParts.{IsPosition, IsComponent, AreComponents}

-- the component, placed there
abbrev pub moved : Component → Place → Component
moved component place = record component { status = Placed; place = Some place }

-- the components, with the one of this number placed there
abbrev pub with_moved : List Component → ℕ → Component → Place → List Component
with_moved components k component place = set components k (moved component place)

pub names_stay : (components : List Component) (k : ℕ) (component : Component) (place : Place) → IsPlacedOn components k component
    → component_names (with_moved components k component place) ≡ component_names components
names_stay components k component place at =
    same_map (λ (c : Component). c.name) components k component (moved component place) at refl

moved_component : (library : LibraryModel) (components : List Component) (k : ℕ) (component : Component) (place : Place) → IsPlacedOn components k component
    → IsPosition place.at → AreComponents library components → IsComponent library (moved component place)
moved_component library components k component place at within proper =
    let was = subst (IsComponent library) (sym at.is) (All-get_or (IsComponent library) components k component at.within proper.each) in
    record { name = was.name; no_pin = was.no_pin; master = was.master; placed = within }

pub components_stay : (library : LibraryModel) (components : List Component) (k : ℕ) (component : Component) (place : Place) → IsPlacedOn components k component
    → IsPosition place.at → AreComponents library components → AreComponents library (with_moved components k component place)
components_stay library components k component place at within proper = record {
  each = All-set (IsComponent library) components k (moved component place) (moved_component library components k component place at within proper) proper.each;
  apart = subst AreApart (sym (names_stay components k component place at)) proper.apart;
  few = rw length-set proper.few;
}

-- the design with the component of this number placed there
abbrev pub design_moved : DesignModel → ℕ → Component → Place → DesignModel
design_moved design k component place = record design { components = with_moved design.components k component place }
