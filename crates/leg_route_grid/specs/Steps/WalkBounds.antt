-- How many steps are left at least from a slot of a grid to the slots of some boxes (lefdef's own rule).
use Rattle.std.specs.Prelude.{◌≡◌, ◌↔◌, ℕ, ◌+◌, ◌-◌, ◌/◌, ◌%◌, ◌<◌, ◌≤◌, List, [], ◌∷◌, length, min, All, Contains}
use Rattle.leg_route_grid.specs.declared.slot.Slot.{Slot}
use Rattle.leg_route_grid.specs.declared.slot_box.SlotBox.{SlotBox}
use Rattle.leg_rules.specs.declared.grid_limits.TheConstants.{GREATEST_GRID}
use Rattle.leg_route_grid.specs.Steps.Grid.{GridModel, IsSlot, slot_total}
use Rattle.leg_route_grid.specs.Steps.SlotNeighbours.{IsSlotIn}

-- how far a place lies outside of a stretch
abbrev pub gap : ℕ → ℕ → ℕ → ℕ
gap low high place = (low - place) + (place - high)

-- how many layers, rows and columns a slot lies outside of the box
abbrev pub slot_bound : SlotBox → Slot → ℕ
slot_bound ends s = gap ends.low.layer ends.high.layer s.layer + gap ends.low.row ends.high.row s.row + gap ends.low.column ends.high.column s.column

-- the slot of this number
abbrev pub slot_of : GridModel → ℕ → Slot
slot_of grid n = record { layer = n / length grid.xs / length grid.ys; row = n / length grid.xs % length grid.ys; column = n % length grid.xs }

-- how many layers, rows and columns a slot lies outside of the nearest of the boxes; with no boxes, as many as a grid has slots at most
abbrev pub nearest : List SlotBox → Slot → ℕ
nearest [] s = GREATEST_GRID
nearest (ends ∷ boxes) s = min (slot_bound ends s) (nearest boxes s)

-- the same for the slot of this number
abbrev pub bound_at : GridModel → List SlotBox → ℕ → ℕ
bound_at grid boxes n = nearest boxes (slot_of grid n)

-- the corners of the box are slots of the grid
pub record IsBoxOf (grid : GridModel) (ends : SlotBox) : Type 0 where
  pub low : IsSlotIn grid ends.low
  pub high : IsSlotIn grid ends.high

-- the slot lies in the box
pub record IsInBox (ends : SlotBox) (s : Slot) : Type 0 where
  pub low_layer : ends.low.layer ≤ s.layer
  pub high_layer : s.layer ≤ ends.high.layer
  pub low_row : ends.low.row ≤ s.row
  pub high_row : s.row ≤ ends.high.row
  pub low_column : ends.low.column ≤ s.column
  pub high_column : s.column ≤ ends.high.column

-- the box is one of slots of the grid: exactly those of whose numbers this holds
pub record HasJust (grid : GridModel) (P : ℕ → Type 0) (ends : SlotBox) : Type 0 where
  pub corners : IsBoxOf grid ends
  pub each : (n : ℕ) (s : Slot) → IsSlot grid n s.layer s.row s.column → P n ↔ IsInBox ends s

-- the boxes are of slots of the grid: exactly the slots of these numbers do not lie outside of all of them
pub record AreBoxed (grid : GridModel) (boxes : List SlotBox) (numbers : List ℕ) : Type 0 where
  pub corners : All (IsBoxOf grid) boxes
  pub inside : All (λ n. bound_at grid boxes n ≡ 0) numbers
  pub only : (n : ℕ) → n < slot_total grid → bound_at grid boxes n ≡ 0 → Contains numbers n
