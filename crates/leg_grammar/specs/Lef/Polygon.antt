-- Rectilinear polygons of ports and obstructions (LEF/DEF 5.8, "Layer Geometries"; that a polygon is given by its
-- slabs, and the limit of these, are lefdef's own rules).
use Rattle.std.specs.Prelude.{Bool, ◌&&◌, List, [], ◌∷◌, ◌++◌, Option, Some, codes}
use Rattle.leg_lex.specs.Words.{Words, ◌>>=◌, is_at, keyword_at}
use Rattle.leg_lex.specs.Until.{until}
use Rattle.leg_geom.specs.Plane.{PointModel, RectModel}
use Rattle.leg_polygon.specs.Slab.{slabs_within as slabs_upto}
use Rattle.leg_grammar.specs.declared.limits.TheConstants.{POLYGON_SLABS}
use Rattle.leg_grammar.specs.declared.profile.Profile.{Profile}
use Rattle.leg_grammar.specs.Def.Guard.{is_over}
use Rattle.leg_grammar.specs.Profiles.{is_wide}
use Rattle.leg_grammar.specs.Mask.{past_mask}
use Rattle.leg_grammar.specs.Lef.Point.{point_at}

-- the statement is a polygon that is read
abbrev pub is_read_polygon : Profile → Words → Bool
is_read_polygon profile statement = is_wide profile && is_at (codes "POLYGON") statement

-- one more point, after those before it
unfoldable pub one_point : List PointModel → Words → Option (List PointModel × Words)
one_point points words = do
  point ← point_at words
  Some (points ++ point.0 ∷ [], point.1)

-- the slabs of the closed walk through the points, of which there are at most POLYGON_SLABS
unfoldable pub slabs_within : List PointModel → Option (List RectModel)
slabs_within points = slabs_upto POLYGON_SLABS points

-- POLYGON point point .., with a mask before the points where masks are dropped: the polygon's slabs
unfoldable pub polygon_in : Profile → Words → Option (List RectModel)
polygon_in profile statement = do
  start ← keyword_at (codes "POLYGON") statement
  mask ← past_mask profile start.1
  points ← until is_over one_point [] mask.1
  slabs_within points.0
