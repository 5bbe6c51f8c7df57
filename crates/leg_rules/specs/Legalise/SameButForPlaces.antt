-- What the legaliser leaves as it is (lefdef's own rule): all but the places of movable components.
use Rattle.std.specs.Prelude.{◌≡◌, ℕ, length, Some, slice_get}
use Rattle.leg_geom.specs.declared.place.Place.{Place}
use Rattle.leg_design_records.specs.Records.{DesignModel}
use Rattle.leg_design_records.specs.declared.records.Component.{Component}
use Rattle.leg_design_records.specs.Movable.{IsMovable}
use Rattle.leg_rules.specs.Legalise.Run.{placed_at}

-- the component with another place or the same, at which it is PLACED
pub record IsPlacedAnew (before after : Component) : Type 0 where
  pub place : Place
  pub is : after ≡ placed_at before place

-- the designs are equal but for place and status of movable components, which are PLACED in the second
pub record IsSameButForPlaces (before after : DesignModel) : Type 0 where
  pub rest : after ≡ record before { components = after.components }
  pub count : length after.components ≡ length before.components
  pub stays : (c : ℕ) → ¬ IsMovable before c → slice_get after.components c ≡ slice_get before.components c
  pub moves : (c : ℕ) (old new : Component) → IsMovable before c → slice_get before.components c ≡ Some old → slice_get after.components c ≡ Some new
      → IsPlacedAnew old new
