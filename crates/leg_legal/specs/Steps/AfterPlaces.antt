-- The design after components have taken places.
use Rattle.std.specs.Prelude.{ℕ, ◌<◌, List, [], ◌∷◌, length, Option, None, Some, slice_get}
use Rattle.leg_geom.specs.declared.place.Place.{Place}
use Rattle.leg_design_records.specs.Records.{DesignModel}
use Rattle.leg_design_records.specs.WellFormedParts.{IsPosition}
use Rattle.leg_design_records.specs.declared.records.Component.{Component}
use Rattle.leg_legal.specs.declared.taken.Taken.{Taken}
use Rattle.leg_rules.specs.Legalise.Run.{moved_to}

-- the number is a component's of the design, and the place one that a DEF may give
pub record CanTake (design : DesignModel) (taken : Taken) : Type 0 where
  pub number : taken.number < length design.components
  pub place : IsPosition taken.place.at

-- the design in which component c, which is this one if there is one, is PLACED there
abbrev pub placed_if_any : DesignModel → ℕ → Place → Option Component → DesignModel
placed_if_any design c place None = design
placed_if_any design c place (Some component) = moved_to design c component place

-- the design in which the component of that number is PLACED there
abbrev pub placed_one : DesignModel → Taken → DesignModel
placed_one design taken = placed_if_any design taken.number taken.place (slice_get design.components taken.number)

-- the design in which one component after the other is PLACED at its place
abbrev pub placed_all : DesignModel → List Taken → DesignModel
placed_all design [] = design
placed_all design (taken ∷ more) = placed_all (placed_one design taken) more
