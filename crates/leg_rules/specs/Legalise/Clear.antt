-- Boxes with room for a component (lefdef's own rule).
use Rattle.leg_geom.specs.Plane.{PointModel, RectModel, HasSquare, ShareSquare}

-- each unit square of the box is one of the die
abbrev pub HasAllSquares : RectModel → RectModel → Type 0
HasAllSquares die box = (square : PointModel) → HasSquare box square → HasSquare die square

-- each unit square of the box is one of the die, and no box that is in the way shares one with it
pub record IsClear (die : RectModel) (Taken : RectModel → Type 0) (box : RectModel) : Type 0 where
  pub inside : HasAllSquares die box
  pub alone : (other : RectModel) → Taken other → ¬ ShareSquare other box
