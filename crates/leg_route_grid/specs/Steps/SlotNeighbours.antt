-- Steps from slot to slot of the table of a grid.
use Rattle.std.specs.Prelude.{◌≡◌, ℕ, ◌+◌, ◌<◌, length, Some, slice_get}
use Rattle.leg_lib_records.specs.declared.records.Direction.TheVariants.{Horizontal, Vertical}
use Rattle.leg_rules.specs.declared.side.Side.{Side}
use Rattle.leg_rules.specs.declared.side.Side.TheVariants.{West, East, South, North, Below, Above}
use Rattle.leg_route_grid.specs.declared.layers.RoutingLayer.{RoutingLayer}
use Rattle.leg_route_grid.specs.declared.slot.Slot.{Slot}
use Rattle.leg_route_grid.specs.Steps.Grid.{GridModel}

-- the slot is one of the grid's
pub record IsSlotIn (grid : GridModel) (s : Slot) : Type 0 where
  pub layer : s.layer < length grid.layers
  pub row : s.row < length grid.ys
  pub column : s.column < length grid.xs

-- t is the next slot to the east of s, on a layer of horizontal wires
pub record IsEastOf (grid : GridModel) (s t : Slot) : Type 0 where
  pub layer : RoutingLayer
  pub there : slice_get grid.layers s.layer ≡ Some layer
  pub horizontal : layer.direction ≡ Horizontal
  pub same_layer : t.layer ≡ s.layer
  pub same_row : t.row ≡ s.row
  pub next : t.column ≡ s.column + 1

-- t is the next slot to the north of s, on a layer of vertical wires
pub record IsNorthOf (grid : GridModel) (s t : Slot) : Type 0 where
  pub layer : RoutingLayer
  pub there : slice_get grid.layers s.layer ≡ Some layer
  pub vertical : layer.direction ≡ Vertical
  pub same_layer : t.layer ≡ s.layer
  pub same_column : t.column ≡ s.column
  pub next : t.row ≡ s.row + 1

-- t is the slot above s, and a via leads there
pub record IsAboveOf (grid : GridModel) (s t : Slot) : Type 0 where
  pub via : ℕ
  pub there : slice_get grid.vias s.layer ≡ Some (Some via)
  pub same_row : t.row ≡ s.row
  pub same_column : t.column ≡ s.column
  pub next : t.layer ≡ s.layer + 1

-- t lies on this side of s
abbrev pub IsSlotNeighbour : GridModel → Side → Slot → Slot → Type 0
IsSlotNeighbour grid West s t = IsEastOf grid t s
IsSlotNeighbour grid East s t = IsEastOf grid s t
IsSlotNeighbour grid South s t = IsNorthOf grid t s
IsSlotNeighbour grid North s t = IsNorthOf grid s t
IsSlotNeighbour grid Below s t = IsAboveOf grid t s
IsSlotNeighbour grid Above s t = IsAboveOf grid s t
