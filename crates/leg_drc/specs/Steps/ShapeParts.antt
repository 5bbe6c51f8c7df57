-- What is asked of a shape by itself: where it reaches, where its sides lie, and how narrow it is.
use Rattle.std.specs.Prelude.{◌≡◌, ◌⊎◌, ℕ, ℤ, ◌<ℤ◌, Some, Contains, slice_get}
use Rattle.leg_geom.specs.Plane.{RectModel}
use Rattle.leg_rules.specs.declared.shape.Shape.{Shape}
use Rattle.leg_drc_rules.specs.Records.{LayerRulesModel, DeckModel}
use Rattle.leg_drc.specs.Sides.{coordinates, lesser_side}
use Rattle.leg_drc.specs.OneShape.{IsMultiple}

-- the second interval reaches past an end of the first
abbrev pub ReachesPast : ℤ → ℤ → ℤ → ℤ → Type 0
ReachesPast low high from to = (from <ℤ low) ⊎ (high <ℤ to)

-- a coordinate of the sides, in units of which a micron has this many, isn't a multiple of so many millionths of a micron
pub record HasSideOff (units : ℕ) (grid : ℤ) (rect : RectModel) : Type 0 where
  pub z : ℤ
  pub side : Contains (coordinates rect) z
  pub off : ¬ IsMultiple units grid z

-- the shape is narrower than the least width of its layer
pub record IsNarrow (deck : DeckModel) (shape : Shape) : Type 0 where
  pub rules : LayerRulesModel
  pub has_rules : slice_get deck.layers shape.layer ≡ Some rules
  pub narrow : lesser_side shape.rect <ℤ rules.width
