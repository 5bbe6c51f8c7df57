-- Where a component may be put, told by unit squares of the plane alone (lefdef's own rule). Laws of this crate say that these
-- places are those of its free positions.
use Rattle.std.specs.Prelude.{◌≡◌, ℕ, List, All, Some, slice_get}
use Rattle.leg_geom.specs.declared.place.Place.{Place}
use Rattle.leg_lib_records.specs.Measure.{IsExtent}
use Rattle.leg_lib_records.specs.Records.{LibraryModel}
use Rattle.leg_design_records.specs.Records.{DesignModel}
use Rattle.leg_design_records.specs.declared.records.Row.{Row}
use Rattle.leg_rules.specs.Placement.Box.{placed_box}
use Rattle.leg_rules.specs.Placement.Sites.{IsOnRow}
use Rattle.leg_rules.specs.Legalise.Clear.{IsClear}
use Rattle.leg_rules.specs.declared.position.Candidate.{Candidate}
use Rattle.leg_design_records.specs.Movable.{IsMovable}
use Rattle.leg_rules.specs.Legalise.Places.{orient_if_placed, Takes}
use Rattle.leg_rules.specs.Legalise.Free.{IsTaken, IsFree}

-- each macro has a width and a height, within the limit of numbers
abbrev pub HasMacroSizes : LibraryModel → Type 0
HasMacroSizes library = All (λ master. IsExtent master.size) library.masters

-- At this place component c, which may move, is on sites of the row of this number, in the orientation that it takes there:
-- consecutive sites of the row have together exactly the unit squares of its box. The box lies in the die, and shares no unit
-- square with one that is taken.
pub record IsFreePlace (design : DesignModel) (done : List ℕ) (c number : ℕ) (place : Place) : Type 0 where
  pub movable : IsMovable design c
  pub row : Row
  pub is_row : slice_get design.rows number ≡ Some row
  pub on_row : IsOnRow design.library movable.master movable.number place row
  pub takes : Takes row.orient movable.master.y_symmetric (orient_if_placed movable.component.place) place.orient
  pub clear : IsClear design.die (IsTaken design done) (placed_box movable.master.size place)

-- a free position of component c in the row of this number has this place
pub record HasFreePosition (design : DesignModel) (done : List ℕ) (c number : ℕ) (place : Place) : Type 0 where
  pub position : Candidate
  pub row : position.row ≡ number
  pub free : IsFree design done c position place
