-- Paths of ports and obstructions, in the wide profile (LEF/DEF 5.8, "Layer Geometries"; that a path is given by a rectangle
-- for each of its lines, and that its width is even, are lefdef's own rules).
use Rattle.std.specs.Prelude.{ℤ, pos, Bool, ◌&&◌, ◌-ℤ◌, ◌+ℤ◌, int_lt, if◌then◌else◌, List, [], ◌∷◌, ◌++◌, Option, None, Some, codes}
use Rattle.std.specs.Int.{int_min, int_max}
use Rattle.leg_lex.specs.Words.{Words, ◌>>=◌, is_at, keyword_at}
use Rattle.leg_lex.specs.Until.{until, over}
use Rattle.leg_geom.specs.Plane.{PointModel, RectModel, halfway}
use Rattle.leg_lib_records.specs.declared.raw.RawKind.{RawKind}
use Rattle.leg_lib_records.specs.declared.raw.RawKind.TheVariants.{Routing, Cut, Other}
use Rattle.leg_design_records.specs.Wires.{is_straight, is_even}
use Rattle.leg_grammar.specs.declared.profile.Profile.{Profile}
use Rattle.leg_grammar.specs.Def.Guard.{when, is_over}
use Rattle.leg_grammar.specs.Profiles.{is_wide}
use Rattle.leg_grammar.specs.Mask.{past_mask}
use Rattle.leg_grammar.specs.Lef.Point.{point_at}
use Rattle.leg_grammar.specs.Lef.Polygon.{one_point}
use Rattle.leg_grammar.specs.Lef.Copies.{length_within}

-- the statement is a path that is read
abbrev pub is_read_path : Profile → Words → Bool
is_read_path profile statement = is_wide profile && is_at (codes "PATH") statement

-- the width of a path on a layer of this kind: that of the last WIDTH on the layer, and else that of the layer's wires
abbrev pub path_width : Option ℤ → RawKind → Option ℤ
path_width (Some width) kind = Some width
path_width None (Routing direction width) = Some width
path_width None Cut = None
path_width None Other = None

-- half of a width that is above 0 and even
unfoldable pub half_of : ℤ → Option ℤ
half_of width = if int_lt (pos 0) width && is_even width then Some (halfway (pos 0) width) else None

-- the rectangle that reaches this far around the straight line between two points
unfoldable pub rect_around : ℤ → PointModel → PointModel → Option RectModel
rect_around half p q = do
  straight ← when (is_straight p q)
  x1 ← length_within (int_min p.x q.x -ℤ half)
  y1 ← length_within (int_min p.y q.y -ℤ half)
  x2 ← length_within (int_max p.x q.x +ℤ half)
  y2 ← length_within (int_max p.y q.y +ℤ half)
  Some (record { x1 = x1; y1 = y1; x2 = x2; y2 = y2 })

-- how far a path has come: its last point, and the rectangles of its lines
pub record PathSoFar : Type 0 where
  pub at : PointModel
  pub rects : List RectModel

-- a line to the next point
unfoldable pub line_to : ℤ → PathSoFar → PointModel → Option PathSoFar
line_to half path point = do
  rect ← rect_around half path.at point
  Some (record { at = point; rects = path.rects ++ rect ∷ [] })

-- a path of one point has the square around it: it goes to the point itself
abbrev pub or_itself : PointModel → List PointModel → List PointModel
or_itself first [] = first ∷ []
or_itself first (point ∷ points) = point ∷ points

-- the points to which a path goes from its first one
unfoldable pub points_after : PointModel → Words → Option (List PointModel × Words)
points_after first words = do
  points ← until is_over one_point [] words
  Some (or_itself first points.0, points.1)

-- PATH point point .., with a mask before the points where masks are dropped: the rectangles of its lines
unfoldable pub path_in : Profile → ℤ → Words → Option (List RectModel)
path_in profile half statement = do
  start ← keyword_at (codes "PATH") statement
  mask ← past_mask profile start.1
  first ← point_at mask.1
  points ← points_after first.0 first.1
  path ← over (line_to half) (record { at = first.0; rects = [] }) points.0
  Some path.rects
