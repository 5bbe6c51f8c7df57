-- What can be wrong with one shape of a wire (LEF/DEF 5.8, "Manufacturing Grid", "Layer (Routing)" on MINWIDTH, "Die Area"; that shapes of
-- wires alone are judged is lefdef's own rule).
use Rattle.std.specs.Prelude.{◌≡◌, ℕ, ℤ, pos, ◌*ℤ◌, ◌<ℤ◌, Some, Contains, slice_get}
use Rattle.leg_geom.specs.Plane.{PointModel, RectModel, HasSquare}
use Rattle.leg_design_records.specs.Records.{DesignModel}
use Rattle.leg_rules.specs.declared.shape.Shape.{Shape}
use Rattle.leg_rules.specs.Metal.Flat.{FlatModel}
use Rattle.leg_drc_rules.specs.Records.{LayerRulesModel, DeckModel}
use Rattle.leg_drc.specs.Wires.{IsOfWire, IsOfSegment}
use Rattle.leg_drc.specs.Sides.{coordinates, lesser_side}

-- a unit square of the rectangle isn't one of the die
pub record ReachesOut (die rect : RectModel) : Type 0 where
  pub square : PointModel
  pub inside : HasSquare rect square
  pub outside : ¬ HasSquare die square

-- The shape is of a wire, and reaches out of the die.
pub record IsOutOfDie (design : DesignModel) (flat : FlatModel) (shape : Shape) : Type 0 where
  pub of_wire : IsOfWire flat shape
  pub out : ReachesOut design.die shape.rect

-- a coordinate, in units of which a micron has n, is a multiple of so many millionths of a micron
abbrev pub IsMultiple : ℕ → ℤ → ℤ → Type 0
IsMultiple n grid z = (k : ℤ) × (z *ℤ pos 1000000 ≡ k *ℤ (grid *ℤ pos n))

-- The shape is of a wire, and a coordinate of its sides isn't on the manufacturing grid, where there is one above 0.
pub record IsOffGrid (design : DesignModel) (deck : DeckModel) (flat : FlatModel) (shape : Shape) : Type 0 where
  pub grid : ℤ
  pub z : ℤ
  pub of_wire : IsOfWire flat shape
  pub has_grid : deck.grid ≡ Some grid
  pub above : pos 0 <ℤ grid
  pub side : Contains (coordinates shape.rect) z
  pub off : ¬ IsMultiple design.library.units grid z

-- The shape is a segment, and narrower than the least width of its layer.
pub record IsTooNarrow (design : DesignModel) (deck : DeckModel) (flat : FlatModel) (shape : Shape) : Type 0 where
  pub rules : LayerRulesModel
  pub segment : IsOfSegment design flat shape
  pub has_rules : slice_get deck.layers shape.layer ≡ Some rules
  pub narrow : lesser_side shape.rect <ℤ rules.width
