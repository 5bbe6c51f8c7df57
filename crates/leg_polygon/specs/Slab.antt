-- A polygon's slabs: its unit squares as rectangles (lefdef's own rule).
use Rattle.std.specs.Prelude.{◌≡◌, ◌↔◌, ◌⊎◌, if◌then◌else◌, List, [], ◌∷◌, length, ℕ, nat_le, ℤ, ◌<ℤ◌, ◌≤ℤ◌, int_lt, Option, Some, None, All, AllPairs, Contains, IsTrue, fold, filter, map, flat_map}
use Rattle.std.specs.List.{list_all}
use Rattle.leg_geom.specs.Plane.{PointModel, RectModel, HasSquare}
use Rattle.leg_polygon.specs.Walk.{steps_from, corners, walk, is_straight}
use Rattle.leg_polygon.specs.Inside.{crosses, is_inside}

-- a number put into a rising list, where it stands once
abbrev pub put_once : List ℤ → ℤ → List ℤ
put_once [] z = z ∷ []
put_once (y ∷ ys) z = if int_lt z y then z ∷ y ∷ ys else (if int_lt y z then y ∷ put_once ys z else y ∷ ys)

-- a number put into a rising list, or taken out where it stands there
abbrev pub toggle : List ℤ → ℤ → List ℤ
toggle [] z = z ∷ []
toggle (y ∷ ys) z = if int_lt z y then z ∷ y ∷ ys else (if int_lt y z then y ∷ toggle ys z else ys)

-- the heights of the corners, each once, from the bottom up
abbrev pub heights : List PointModel → List ℤ
heights points = fold put_once [] (map (λ point. point.y) points)

-- the bands of the plane between each two heights that follow one another
abbrev pub bands : List ℤ → List (ℤ × ℤ)
bands [] = []
bands (y ∷ ys) = steps_from y ys

-- from west to east, where the walk's vertical sides stand in the row on a line: those of which an odd number stand in one place
abbrev pub edges : List (PointModel × PointModel) → ℤ → List ℤ
edges walk line = fold toggle [] (map (λ side. side.0.x) (filter (crosses line) walk))

-- the rectangles in a band from the first edge to the second, from the third to the fourth, and so on
abbrev pub runs : ℤ × ℤ → List ℤ → List RectModel
runs band (west ∷ east ∷ rest) = record { x1 = west; y1 = band.0; x2 = east; y2 = band.1 } ∷ runs band rest
runs band (west ∷ []) = []
runs band [] = []

-- the slabs of a walk through these corners, from the bottom up, and in each band from west to east
abbrev pub slabs : List PointModel → List RectModel
slabs points = flat_map (λ band. runs band (edges (walk points) band.0)) (bands (heights (corners points)))

-- the list, if it is not empty
abbrev pub unless_empty : {X : Type 0} → List X → Option (List X)
unless_empty [] = None
unless_empty (x ∷ xs) = Some (x ∷ xs)

-- what a polygon denotes: its slabs, and nothing where a side is slanted or no unit square is inside
abbrev pub slabs_of : List PointModel → Option (List RectModel)
slabs_of points = if list_all is_straight (walk points) then unless_empty (slabs points) else None

-- what a polygon denotes where it may have at most so many slabs: nothing where it has more
abbrev pub slabs_within : ℕ → List PointModel → Option (List RectModel)
slabs_within limit points = if nat_le (length (slabs points)) limit then slabs_of points else None

-- A rectangle that spans, along y, the band between two heights of corners that follow one another, and along x a row of unit
-- squares.
pub record IsSlab (corners : List PointModel) (r : RectModel) : Type 0 where
  pub wide : r.x1 <ℤ r.x2
  pub high : r.y1 <ℤ r.y2
  pub bottom : Contains (map (λ p. p.y) corners) r.y1
  pub top : Contains (map (λ p. p.y) corners) r.y2
  pub whole : (y : ℤ) → Contains (map (λ p. p.y) corners) y → (y ≤ℤ r.y1) ⊎ (r.y2 ≤ℤ y)

-- one rectangle lies below another, or to the west of it in its band, with a gap between them
abbrev pub ComesBefore : RectModel → RectModel → Type 0
ComesBefore a b = (a.y2 ≤ℤ b.y1) ⊎ ((a.y1 ≡ b.y1) × (a.x2 <ℤ b.x1))

-- some rectangle of the list has the unit square
pub record IsCovered (rects : List RectModel) (square : PointModel) : Type 0 where
  pub rect : RectModel
  pub given : Contains rects rect
  pub has : HasSquare rect square

-- The rectangles are the slabs of the polygon: together they have exactly the unit squares inside, each once; each spans a band; and
-- they stand from the bottom up, and in a band from west to east, none touching the next.
pub record AreSlabs (points : List PointModel) (rects : List RectModel) : Type 0 where
  pub squares : (square : PointModel) → IsTrue (is_inside (walk points) square) ↔ IsCovered rects square
  pub each : All (IsSlab (corners points)) rects
  pub order : AllPairs ComesBefore rects
