-- What a walk over a design has found so far.
use Rattle.std.specs.Prelude.{◌≡◌, ℕ, ◌≤◌, ◌<◌, Bool, Option, Some, None, List, All, AllPairs, Contains}
use Rattle.leg_geom.specs.Plane.{RectModel, ShareSquare}
use Rattle.leg_geom.specs.Pairs.{IsPair}
use Rattle.leg_design_records.specs.Records.{DesignModel}
use Rattle.leg_design_records.specs.declared.fault.Fault.{Fault}
use Rattle.leg_design_records.specs.Violation.{kind_number, numbers_of, IsListOf}
use Rattle.leg_place.specs.declared.placed_box.PlacedBox.{PlacedBox}
use Rattle.leg_rules.specs.Placement.Box.{HasBox}
use Rattle.leg_rules.specs.Placement.Violations.{DoOverlap, IsPlacementViolation}
use Rattle.leg_place.specs.Among.{IsMarked, IsViolationAmong}
use Rattle.leg_place.specs.declared.component_fault.ComponentFault.{ComponentFault}
use Rattle.leg_place.specs.Steps.ComponentFault.{fault_of}

-- A violation among the marked components holds. It is of a kind before the one of this number, or of that one, and then it
-- names first a component below end.
pub record IsViolationBefore (design : DesignModel) (marks : List Bool) (kind end : ℕ) (fault : Fault) : Type 0 where
  pub holds : IsViolationAmong design marks fault
  pub upto : kind_number fault ≤ kind
  pub below : kind_number fault ≡ kind → (numbers_of fault).0 < end

-- the list of these: all of them, each once, in order
abbrev pub IsListBefore : DesignModel → List Bool → ℕ → ℕ → List Fault → Type 0
IsListBefore design marks kind end faults = IsListOf (IsViolationBefore design marks kind end) faults

abbrev pub HasLowerNumber : PlacedBox → PlacedBox → Type 0
HasLowerNumber a b = a.component < b.component

-- the boxes of the marked components that are placed and whose numbers are below end: all of them, each once, in order
pub record AreBoxesBelow (design : DesignModel) (marks : List Bool) (end : ℕ) (boxes : List PlacedBox) : Type 0 where
  pub increasing : AllPairs HasLowerNumber boxes
  pub each : All (λ box. HasBox design box.component box.rect) boxes
  pub marked : All (λ box. IsMarked marks box.component) boxes
  pub below : All (λ box. box.component < end) boxes
  pub all : (c : ℕ) (rect : RectModel) → c < end → IsMarked marks c → HasBox design c rect → Contains boxes (record { component = c; rect = rect })

-- the box of component c, or none where it isn't marked or has no place
abbrev pub IsMarkedBox : DesignModel → List Bool → ℕ → Option RectModel → Type 0
IsMarkedBox design marks c None = (rect : RectModel) → IsMarked marks c → ¬ HasBox design c rect
IsMarkedBox design marks c (Some rect) = IsMarked marks c × HasBox design c rect

-- a violation of a kind that is asked of one component holds of this one
pub record IsMisplaced (design : DesignModel) (c : ℕ) : Type 0 where
  pub kind : ComponentFault
  pub holds : IsPlacementViolation design (fault_of kind c)

-- one does of some component whose number is below end
pub record IsOneMisplaced (design : DesignModel) (end : ℕ) : Type 0 where
  pub c : ℕ
  pub below : c < end
  pub misplaced : IsMisplaced design c

-- two components overlap
pub record DoSomeOverlap (design : DesignModel) : Type 0 where
  pub a : ℕ
  pub b : ℕ
  pub overlap : DoOverlap design a b

-- two boxes share a unit square
pub record HasPair (boxes : List PlacedBox) : Type 0 where
  pub numbers : ℕ × ℕ
  pub pair : IsPair (λ a b. ShareSquare a.rect b.rect) boxes numbers
