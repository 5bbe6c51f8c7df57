-- How far metal on a layer lies from the points of the slots that add it.
use Rattle.std.specs.Prelude.{◌≡◌, ℕ, ◌+◌, ◌-◌, ◌<◌, ◌≤◌, Bool, true, false, ℤ, pos, ◌-ℤ◌, ◌+ℤ◌, ◌≤ℤ◌, Option, None, Some, slice_get, length, All}
use Rattle.leg_lex.specs.declared.limits.TheConstants.{NUMBER_LIMIT}
use Rattle.leg_geom.specs.Plane.{RectModel}
use Rattle.leg_lib_records.specs.declared.records.Shape.{Shape}
use Rattle.leg_lib_records.specs.Records.{ViaModel, LibraryModel}
use Rattle.leg_lib_records.specs.declared.records.Direction.TheVariants.{Horizontal, Vertical}
use Rattle.leg_route_grid.specs.declared.layers.RoutingLayer.{RoutingLayer}
use Rattle.leg_rules.specs.Spacing.RequiredSpacing.{greatest_spacing_on}
use Rattle.leg_rules.specs.Route.StepWires.{half}
use Rattle.leg_route_grid.specs.Steps.Grid.{GridModel}

-- there is a reach, and it is this at least
abbrev pub Reaches : Option ℤ → ℤ → Type 0
Reaches None z = ⊥
Reaches (Some reach) z = z ≤ℤ reach

-- a reach is a number that a DEF may have, and not below 0
pub record IsDistance (reach : ℤ) : Type 0 where
  pub least : pos 0 ≤ℤ reach
  pub most : reach ≤ℤ pos NUMBER_LIMIT

-- two of them together
pub record IsFar (far : ℤ) : Type 0 where
  pub least : pos 0 ≤ℤ far
  pub most : far ≤ℤ (pos NUMBER_LIMIT +ℤ pos NUMBER_LIMIT)

abbrev pub IsReach : Option ℤ → Type 0
IsReach None = Unit {0}
IsReach (Some reach) = IsDistance reach

-- no point of the rectangle lies farther from the point 0 0 than this, along x or y
pub record ReachesAll (reach : Option ℤ) (rect : RectModel) : Type 0 where
  pub x1 : Reaches reach (pos 0 -ℤ rect.x1)
  pub y1 : Reaches reach (pos 0 -ℤ rect.y1)
  pub x2 : Reaches reach rect.x2
  pub y2 : Reaches reach rect.y2

-- the second reach is there where the first is, and no less
abbrev pub IsWider : Option ℤ → Option ℤ → Type 0
IsWider reach wider = (z : ℤ) → Reaches reach z → Reaches wider z

-- the same of a shape, if it lies on the layer
abbrev pub ReachesShape : Option ℤ → ℕ → Shape → Type 0
ReachesShape reach layer shape = shape.layer ≡ layer → ReachesAll reach shape.rect

-- no metal on the layer that a node of routing layer k, a step along it or a step up to the next one adds lies farther from their points
pub record ReachesMetal (grid : GridModel) (k layer : ℕ) (reach : Option ℤ) : Type 0 where
  pub proper : IsReach reach
  pub line : (own : RoutingLayer) → slice_get grid.layers k ≡ Some own → own.number ≡ layer → Reaches reach (half own.width)
  pub via : (via : ℕ) (said : ViaModel) (high : RoutingLayer) → slice_get grid.layers (k + 1) ≡ Some high → slice_get grid.vias k ≡ Some (Some via)
      → slice_get grid.design.library.vias via ≡ Some said
      → All (ReachesShape reach layer) said.shapes

-- metal on the layer of this number that lies farther apart than this along an axis keeps each spacing on it
abbrev pub clear_at : LibraryModel → ℕ → ℕ
clear_at library number = greatest_spacing_on library number - 1

abbrev pub one_if : Bool → ℕ
one_if true = 1
one_if false = 0

-- steps along routing layer k, if that is the layer of this number, go along x only if the first mark is set, and along y only if the second is
pub record AreAlong (grid : GridModel) (k layer : ℕ) (along_x along_y : Bool) : Type 0 where
  pub x : (own : RoutingLayer) → slice_get grid.layers k ≡ Some own → own.number ≡ layer → own.direction ≡ Horizontal → along_x ≡ true
  pub y : (own : RoutingLayer) → slice_get grid.layers k ≡ Some own → own.number ≡ layer → own.direction ≡ Vertical → along_y ≡ true

-- only nodes and steps of the routing layers from the first to before the end may add metal on the layer
pub record AreNearLayers (grid : GridModel) (layer first end : ℕ) : Type 0 where
  pub within : end ≤ length grid.layers
  pub before : (k : ℕ) → k < first → ReachesMetal grid k layer None
  pub behind : (k : ℕ) → end ≤ k → ReachesMetal grid k layer None
