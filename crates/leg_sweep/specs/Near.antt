-- Which rectangles of a list lie near one.
use Rattle.std.specs.Prelude.{◌≡◌, ℕ, ◌≤◌, List, Some, All, Contains, slice_get}
use Rattle.leg_geom.specs.Plane.{RectModel}
use Rattle.leg_geom.specs.Gap.{x_gap, y_gap}

-- The rectangle with the number is there, and both of its gaps from this one are at most the reach.
pub record IsNear (rects : List RectModel) (rect : RectModel) (reach number : ℕ) : Type 0 where
  pub other : RectModel
  pub there : slice_get rects number ≡ Some other
  pub x : x_gap rect other ≤ reach
  pub y : y_gap rect other ≤ reach

-- exactly the numbers of such rectangles, each at least once, in any order
pub record AreNear (rects : List RectModel) (rect : RectModel) (reach : ℕ) (numbers : List ℕ) : Type 0 where
  pub each : All (IsNear rects rect reach) numbers
  pub all : (number : ℕ) → IsNear rects rect reach number → Contains numbers number
