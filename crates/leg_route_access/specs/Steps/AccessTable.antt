-- What is kept of each slot of a grid: to which nets its node and the steps from it are open.
use Rattle.std.specs.Prelude.{◌≡◌, ◌↔◌, ◌⊎◌, ℕ, List, Some, length, slice_get}
use Rattle.leg_rules.specs.Metal.Flat.{FlatModel}
use Rattle.leg_rules.specs.declared.side.Side.TheVariants.{East, North, Above}
use Rattle.leg_wire_spacing.specs.declared.access.Access.{Access}
use Rattle.leg_wire_spacing.specs.Access.{Admits}
use Rattle.leg_route_access.specs.declared.slot_access.SlotAccess.{SlotAccess}
use Rattle.leg_rules.specs.Route.OpenMetal.{IsOpenNode}
use Rattle.leg_route_grid.specs.Steps.Grid.{GridModel, IsNumberOf, slot_total}
use Rattle.leg_route_grid.specs.Steps.NodeNumbers.{IsOneOf, IsOpenStepAt}

-- exactly the nets are admitted of which this holds
abbrev pub AdmitsJust : Access → (ℕ → Type 0) → Type 0
AdmitsJust access Holds = (net : ℕ) → Admits access net ↔ Holds net

-- the step along the layer of the slot of this number, to the east or to the north, is open to the net
abbrev pub IsOpenAlong : GridModel → FlatModel → ℕ → ℕ → Type 0
IsOpenAlong grid flat net n = IsOpenStepAt grid flat net East n ⊎ IsOpenStepAt grid flat net North n

-- this is kept of the slot of the number n
pub record IsSlotAccess (grid : GridModel) (flat : FlatModel) (n : ℕ) (slot : SlotAccess) : Type 0 where
  pub node : AdmitsJust slot.node (λ net. IsOneOf (IsNumberOf grid) (IsOpenNode grid.design flat net) n)
  pub along : AdmitsJust slot.along (λ net. IsOpenAlong grid flat net n)
  pub above : AdmitsJust slot.above (λ net. IsOpenStepAt grid flat net Above n)

-- this is kept of all slots, by their numbers
pub record IsAccessTable (grid : GridModel) (flat : FlatModel) (slots : List SlotAccess) : Type 0 where
  pub count : length slots ≡ slot_total grid
  pub each : (n : ℕ) (slot : SlotAccess) → slice_get slots n ≡ Some slot → IsSlotAccess grid flat n slot
