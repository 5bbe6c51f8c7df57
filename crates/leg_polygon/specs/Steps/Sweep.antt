-- What the code's steps say that go through the rows of a polygon from the bottom up.
use Rattle.std.specs.Prelude.{◌≡◌, Bool, List, [], ◌∷◌, ◌++◌, ℤ, ◌<ℤ◌, ◌≤ℤ◌, int_le, All, AllPairs, fold, filter, map}
use Rattle.leg_geom.specs.Plane.{PointModel}
use Rattle.leg_polygon.specs.Slab.{toggle}

-- the heights at which a side begins and ends, each at the place of its first point along x
abbrev pub ends : PointModel × PointModel → List PointModel
ends side = side.0 ∷ record { x = side.0.x; y = side.1.y } ∷ []

-- the points stand from the bottom up
abbrev pub DoClimb : List PointModel → Type 0
DoClimb points = AllPairs (λ a b. a.y ≤ℤ b.y) points

-- the bands stand from the bottom up
abbrev pub DoStack : List (ℤ × ℤ) → Type 0
DoStack bands = AllPairs (λ a b. a.0 <ℤ b.0) bands

-- the points are parted at a line: those that stand on it or below it, and behind them those above it
pub record ArePartedAt (line : ℤ) (points lower upper : List PointModel) : Type 0 where
  pub whole : lower ++ upper ≡ points
  pub upto : All (λ point. point.y ≤ℤ line) lower
  pub above : All (λ point. line <ℤ point.y) upper

-- the point stands on the line or below it
abbrev pub is_upto : ℤ → PointModel → Bool
is_upto line point = int_le point.y line

-- the places along x at which an odd number of the points stand on the line or below it, from west to east
abbrev pub odd_upto : List PointModel → ℤ → List ℤ
odd_upto points line = fold toggle [] (map (λ point. point.x) (filter (is_upto line) points))
