-- The grid of a design as a table: its routing layers, its values along both axes, where layers have tracks, and the vias
-- from each routing layer to the next. Slots, one for each layer and each pair of values, have numbers by layer, y and x.
use Rattle.std.specs.Prelude.{◌≡◌, ℕ, ◌+◌, ◌*◌, ◌<◌, ◌≤◌, ℤ, Bool, List, length, All, AllPairs, Contains, Option, Some, MatchOption, slice_get}
use Rattle.leg_lex.specs.Number.{IsNumber}
use Rattle.leg_lib_records.specs.declared.records.Direction.{Direction}
use Rattle.leg_lib_records.specs.declared.records.Direction.TheVariants.{Horizontal, Vertical}
use Rattle.leg_lib_records.specs.Records.{LibraryModel}
use Rattle.leg_design_records.specs.declared.records.Axis.{Axis}
use Rattle.leg_design_records.specs.declared.records.Axis.TheVariants.{X, Y}
use Rattle.leg_design_records.specs.Records.{DesignModel}
use Rattle.leg_rules.specs.declared.grid_limits.TheConstants.{GREATEST_GRID}
use Rattle.leg_route_grid.specs.declared.layers.RoutingLayer.{RoutingLayer}
use Rattle.leg_rules.specs.declared.node.Node.{Node}
use Rattle.leg_rules.specs.Route.Tracks.{Runs, IsGridX, IsGridY}
use Rattle.leg_rules.specs.Route.Between.{IsVia}
use Rattle.leg_rules.specs.Route.GridSize.{AreValues}
use Rattle.leg_route_grid.specs.Steps.TrackMarks.{AreTrackMarks}

-- the routing layers of a library, bottom up
pub record AreRoutingLayers (library : LibraryModel) (layers : List RoutingLayer) : Type 0 where
  pub increasing : AllPairs (λ a b. a.number < b.number) layers
  pub each : All (λ l. Runs library l.number l.direction l.width) layers
  pub all : (number : ℕ) (direction : Direction) (width : ℤ) → Runs library number direction width
      → Contains layers (record { number = number; direction = direction; width = width })

-- a grid of a design
pub record GridModel : Type 0 where
  pub design : DesignModel
  pub layers : List RoutingLayer
  pub xs : List ℤ
  pub ys : List ℤ
  pub tracks : List (List Bool)
  pub vias : List (Option ℕ)

-- the axis along which the tracks of such a layer lie, and the grid's values along it
abbrev pub axis_of : Direction → Axis
axis_of Vertical = X
axis_of Horizontal = Y

abbrev pub values_of : List ℤ → List ℤ → Direction → List ℤ
values_of xs ys Vertical = xs
values_of xs ys Horizontal = ys

-- wires go from one layer to the other by this via, or not at all
abbrev pub IsViaIfAny : LibraryModel → ℕ → ℕ → Option ℕ → Type 0
IsViaIfAny library low high via = MatchOption via ((k : ℕ) → ¬ IsVia library low high k) (λ k. IsVia library low high k)

-- for each of the routing layers the marks of its tracks
pub record AreTracks (design : DesignModel) (layers : List RoutingLayer) (xs ys : List ℤ) (tracks : List (List Bool)) : Type 0 where
  pub count : length tracks ≡ length layers
  pub each : (k : ℕ) (layer : RoutingLayer) (marks : List Bool) → slice_get layers k ≡ Some layer → slice_get tracks k ≡ Some marks
      → AreTrackMarks design layer.number (axis_of layer.direction) (values_of xs ys layer.direction) marks

-- for each of the first n routing layers the via to the next one above
pub record AreViasFrom (library : LibraryModel) (layers : List RoutingLayer) (n : ℕ) (vias : List (Option ℕ)) : Type 0 where
  pub count : length vias ≡ n
  pub each : (k : ℕ) (low high : RoutingLayer) (via : Option ℕ) → slice_get layers k ≡ Some low → slice_get layers (k + 1) ≡ Some high
      → slice_get vias k ≡ Some via → IsViaIfAny library low.number high.number via

abbrev pub slot_total : GridModel → ℕ
slot_total grid = length grid.layers * length grid.ys * length grid.xs

-- The table is that of the grid of its design, and keeps the greatest limit.
pub record IsDesignGrid (grid : GridModel) : Type 0 where
  pub layers_are : AreRoutingLayers grid.design.library grid.layers
  pub xs_are : AreValues (IsGridX grid.design) grid.xs
  pub ys_are : AreValues (IsGridY grid.design) grid.ys
  pub xs_within : All IsNumber grid.xs
  pub ys_within : All IsNumber grid.ys
  pub few : slot_total grid ≤ GREATEST_GRID
  pub tracks_are : AreTracks grid.design grid.layers grid.xs grid.ys grid.tracks
  pub vias_are : AreViasFrom grid.design.library grid.layers (length grid.layers) grid.vias

-- n is the number of the slot of layer k, row j and column i
pub record IsSlot (grid : GridModel) (n k j i : ℕ) : Type 0 where
  pub layer : k < length grid.layers
  pub row : j < length grid.ys
  pub column : i < length grid.xs
  pub is : n ≡ (k * length grid.ys + j) * length grid.xs + i

-- the node lies in the slot of this layer, row and column
pub record LiesAt (grid : GridModel) (k j i : ℕ) (node : Node) : Type 0 where
  pub layer : RoutingLayer
  pub there : slice_get grid.layers k ≡ Some layer
  pub on : node.layer ≡ layer.number
  pub y : slice_get grid.ys j ≡ Some node.at.y
  pub x : slice_get grid.xs i ≡ Some node.at.x

-- n is the number of the slot in which the node lies
pub record IsNumberOf (grid : GridModel) (n : ℕ) (node : Node) : Type 0 where
  pub k : ℕ
  pub j : ℕ
  pub i : ℕ
  pub slot : IsSlot grid n k j i
  pub lies : LiesAt grid k j i node
