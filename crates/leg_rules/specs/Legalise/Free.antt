-- Which positions of a component are free, and which of them is the best (lefdef's own rules).
use Rattle.std.specs.Prelude.{◌⊎◌, ℕ, List, Contains}
use Rattle.leg_geom.specs.Plane.{RectModel}
use Rattle.leg_geom.specs.declared.place.Place.{Place}
use Rattle.leg_design_records.specs.Records.{DesignModel, placement_rects}
use Rattle.leg_rules.specs.Placement.Box.{HasBox, placed_box}
use Rattle.leg_rules.specs.declared.position.Candidate.{Candidate}
use Rattle.leg_rules.specs.Legalise.Clear.{IsClear}
use Rattle.leg_rules.specs.Legalise.Preference.{IsNoWorse}
use Rattle.leg_design_records.specs.Movable.{IsMovable}
use Rattle.leg_rules.specs.Legalise.Places.{IsPlacedOn}

-- Component d is where it will remain: it stays, or its turn has come. One that waits for its turn is in nobody's way.
abbrev pub IsSettled : DesignModel → List ℕ → ℕ → Type 0
IsSettled design done d = (¬ IsMovable design d) ⊎ Contains done d

-- a component is in this box and will stay there
pub record HasSettled (design : DesignModel) (done : List ℕ) (box : RectModel) : Type 0 where
  pub d : ℕ
  pub settled : IsSettled design done d
  pub stands : HasBox design d box

-- the box is taken: a component will stay there, or it is a rectangle of a placement blockage
abbrev pub IsTaken : DesignModel → List ℕ → RectModel → Type 0
IsTaken design done box = HasSettled design done box ⊎ Contains (placement_rects design.blockages) box

-- With this place component c is at the position, and its box is clear: it lies in the die, and shares no unit square with
-- one that is taken.
pub record IsFree (design : DesignModel) (done : List ℕ) (c : ℕ) (position : Candidate) (place : Place) : Type 0 where
  pub stands : IsPlacedOn design c position place
  pub clear : IsClear design.die (IsTaken design done) (placed_box stands.master.size place)

-- the place is that of a free position of component c, and no free one is better
pub record TakesBest (design : DesignModel) (done : List ℕ) (c : ℕ) (place : Place) : Type 0 where
  pub position : Candidate
  pub free : IsFree design done c position place
  pub best : (other : Candidate) (at : Place) → IsFree design done c other at → IsNoWorse position other
