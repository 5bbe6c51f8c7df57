-- Where the sides of a rectangle stand.
use Rattle.std.specs.Prelude.{List, ℤ, Contains}
use Rattle.leg_geom.specs.Plane.{RectModel}
use Rattle.leg_lib_records.specs.Measure.{IsProper}

-- a rectangle with area, whose sides stand at coordinates of these lists
pub record StandsAt (xs ys : List ℤ) (r : RectModel) : Type 0 where
  pub proper : IsProper r
  pub west : Contains xs r.x1
  pub east : Contains xs r.x2
  pub bottom : Contains ys r.y1
  pub top : Contains ys r.y2
