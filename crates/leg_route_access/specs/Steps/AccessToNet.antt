-- What a table of slots admits to a net: nodes and steps, by the numbers of slots.
use Rattle.std.specs.Prelude.{◌≡◌, ℕ, List, Some, slice_get}
use Rattle.leg_rules.specs.declared.side.Side.{Side}
use Rattle.leg_rules.specs.declared.side.Side.TheVariants.{West, East, South, North, Below, Above}
use Rattle.leg_wire_spacing.specs.declared.access.Access.{Access}
use Rattle.leg_wire_spacing.specs.Access.{Admits}
use Rattle.leg_route_access.specs.declared.slot_access.SlotAccess.{SlotAccess}
use Rattle.leg_route_grid.specs.Steps.Grid.{GridModel}
use Rattle.leg_route_grid.specs.Steps.NodeNumbers.{IsNeighbourAt}

-- the net is admitted by this part of what is kept of the slot of the number n
pub record IsAdmittedAt (slots : List SlotAccess) (part : SlotAccess → Access) (net n : ℕ) : Type 0 where
  pub slot : SlotAccess
  pub there : slice_get slots n ≡ Some slot
  pub admits : Admits (part slot) net

-- the net is admitted by this part of what is kept of the slot that lies on this side
pub record IsAdmittedThere (grid : GridModel) (slots : List SlotAccess) (part : SlotAccess → Access) (net : ℕ) (side : Side) (n : ℕ) : Type 0 where
  pub to : ℕ
  pub beside : IsNeighbourAt grid side n to
  pub admitted : IsAdmittedAt slots part net to

-- the node in the slot is admitted
abbrev pub IsNodeAdmitted : List SlotAccess → ℕ → ℕ → Type 0
IsNodeAdmitted slots net n = IsAdmittedAt slots (λ slot. slot.node) net n

-- the step from the slot to this side is admitted: a step to the west, to the south or down is kept with the slot that it goes to
abbrev pub IsStepAdmitted : GridModel → List SlotAccess → ℕ → Side → ℕ → Type 0
IsStepAdmitted grid slots net West n = IsAdmittedThere grid slots (λ slot. slot.along) net West n
IsStepAdmitted grid slots net East n = IsAdmittedAt slots (λ slot. slot.along) net n
IsStepAdmitted grid slots net South n = IsAdmittedThere grid slots (λ slot. slot.along) net South n
IsStepAdmitted grid slots net North n = IsAdmittedAt slots (λ slot. slot.along) net n
IsStepAdmitted grid slots net Below n = IsAdmittedThere grid slots (λ slot. slot.above) net Below n
IsStepAdmitted grid slots net Above n = IsAdmittedAt slots (λ slot. slot.above) net n
