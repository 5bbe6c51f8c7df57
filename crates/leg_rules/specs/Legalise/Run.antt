-- What the legaliser does (lefdef's own rule): one component after the other takes its best free position.
use Rattle.std.specs.Prelude.{◌≡◌, ◌⊎◌, ℕ, List, [], ◌∷◌, ◌++◌, Some, slice_get, slice_set}
use Rattle.leg_geom.specs.declared.place.Place.{Place}
use Rattle.leg_design_records.specs.Records.{DesignModel}
use Rattle.leg_design_records.specs.declared.records.Status.TheVariants.{Placed}
use Rattle.leg_design_records.specs.declared.records.Component.{Component}
use Rattle.leg_rules.specs.Placement.Violations.{IsLegallyPlaced}
use Rattle.leg_rules.specs.Legalise.Free.{TakesBest}
use Rattle.leg_rules.specs.Legalise.Turns.{IsOrderOfTaking}

-- the component is PLACED there
abbrev pub placed_at : Component → Place → Component
placed_at component place = record component { status = Placed; place = Some place }

-- the design in which component c, which was this one, is PLACED there
abbrev pub moved_to : DesignModel → ℕ → Component → Place → DesignModel
moved_to design c component place = record design { components = slice_set design.components c (placed_at component place) }

-- From the first design the components of the list have taken their places, one after the other, and the second design
-- is what has come of it.
pub data LegaliseRun (before : DesignModel) : List ℕ → DesignModel → Type 0 where
  none : LegaliseRun before [] before
  one : {done : List ℕ} {now : DesignModel} {c : ℕ} {component : Component} {place : Place}
      → LegaliseRun before done now
      → slice_get now.components c ≡ Some component
      → TakesBest now done c place
      → LegaliseRun before (done ++ c ∷ []) (moved_to now c component place)

-- all movable components have taken their places, in their order
pub record IsRunOfAll (before after : DesignModel) : Type 0 where
  pub order : List ℕ
  pub is_order : IsOrderOfTaking before order
  pub run : LegaliseRun before order after

-- a legally placed design stays as it is, and in any other all movable components are placed anew
abbrev pub IsLegalised : DesignModel → DesignModel → Type 0
IsLegalised before after = (IsLegallyPlaced before × (after ≡ before)) ⊎ ((¬ IsLegallyPlaced before) × IsRunOfAll before after)
