-- Rectilinear polygons of a DEF (LEF/DEF 5.8, "Pins", "Blockages", "Special Wiring Statement"; that a polygon is given by its
-- slabs is lefdef's own rule). They are read in the wide profile alone.
use Rattle.std.specs.Prelude.{ℤ, Bool, not, if◌then◌else◌, List, [], ◌∷◌, ◌++◌, Option, Some, codes}
use Rattle.leg_lex.specs.Words.{Words, ◌>>=◌, is_at, mark_at, whole_at}
use Rattle.leg_lex.specs.Until.{until}
use Rattle.leg_geom.specs.Plane.{PointModel, RectModel}
use Rattle.leg_grammar.specs.Def.Placement.{spot_at}
use Rattle.leg_grammar.specs.Lef.Polygon.{slabs_within}

-- a number, or `*` (42) for that of the point before
unfoldable pub coordinate_after : ℤ → Words → Option (ℤ × Words)
coordinate_after before words =
    if is_at (codes "*") words then (mark_at 42 words >>= λ star. Some (before, star.1)) else whole_at words

-- ( x y ) after a point: 40 and 41 are the parentheses
unfoldable pub point_after : PointModel → Words → Option (PointModel × Words)
point_after before words = do
  open_ ← mark_at 40 words
  x ← coordinate_after before.x open_.1
  y ← coordinate_after before.y x.1
  close ← mark_at 41 y.1
  Some (record { x = x.0; y = y.0 }, close.1)

-- one more point, after those before it and the last of them
unfoldable pub one_point : List PointModel × PointModel → Words → Option ((List PointModel × PointModel) × Words)
one_point points words = do
  point ← point_after points.1 words
  Some ((points.0 ++ point.0 ∷ [], point.0), point.1)

-- no further point comes next
abbrev pub at_no_point : Words → Bool
at_no_point words = not (is_at (codes "(") words)

-- points, one at least: the slabs of the closed walk through them
unfoldable pub polygon_at : Words → Option (List RectModel × Words)
polygon_at words = do
  first ← spot_at words
  points ← until at_no_point one_point (first.0 ∷ [], first.0) first.1
  slabs ← slabs_within points.0.0
  Some (slabs, points.1)
