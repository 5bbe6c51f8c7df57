-- The slot on a side of another, if there is one.
use Rattle.std.specs.Prelude.{◌≡◌, ℕ, Option, Some, MatchOption, slice_get}
use Rattle.leg_lib_records.specs.declared.records.Direction.{Direction}
use Rattle.leg_rules.specs.declared.side.Side.{Side}
use Rattle.leg_route_grid.specs.declared.layers.RoutingLayer.{RoutingLayer}
use Rattle.leg_route_grid.specs.declared.slot.Slot.{Slot}
use Rattle.leg_route_grid.specs.Steps.Grid.{GridModel}
use Rattle.leg_route_grid.specs.Steps.SlotNeighbours.{IsSlotIn, IsSlotNeighbour}

-- wires of routing layer k run in this direction
pub record RunsAt (grid : GridModel) (k : ℕ) (direction : Direction) : Type 0 where
  pub layer : RoutingLayer
  pub there : slice_get grid.layers k ≡ Some layer
  pub is : layer.direction ≡ direction

-- t is a slot of the grid on this side of s
pub record IsNeighbourWithin (grid : GridModel) (side : Side) (s t : Slot) : Type 0 where
  pub within : IsSlotIn grid t
  pub beside : IsSlotNeighbour grid side s t

-- there is no slot on this side of s, or this one
abbrev pub IsNeighbourIfAny : GridModel → Side → Slot → Option Slot → Type 0
IsNeighbourIfAny grid side s result =
    MatchOption result ((t : Slot) → ¬ IsNeighbourWithin grid side s t) (λ t. IsNeighbourWithin grid side s t)
