-- Polygons that are read have slabs, with area and of numbers within their limit.
use Rattle.std.proofs.Common.{◌≡◌, ◌≤◌, ℕ, ℤ, List, [], ◌∷◌, length, All, Some, codes}
use Rattle.std.specs.Prelude.{nat_le}
use Rattle.std.proofs.lemmas.List.Elements.{All-push, All-nil, All-cons, All-weaker}
use Rattle.leg_lex.specs.Number.{IsNumber}
use Rattle.leg_lex.specs.Words.{Words, is_at, mark_at}
use Rattle.leg_lex.proofs.GivesAll.{until_gives}
use Rattle.leg_geom.specs.Plane.{PointModel, RectModel, IsCoordinate, IsSpot, IsRect}
use Rattle.leg_polygon.specs.Slab.{slabs, slabs_of, slabs_within as slabs_upto}
use Rattle.leg_grammar.specs.declared.limits.TheConstants.{POLYGON_SLABS}
use Rattle.leg_grammar.specs.Lef.Polygon.{slabs_within}
use Rattle.leg_grammar.specs.Def.Polygon.{coordinate_after, point_after, one_point, at_no_point, polygon_at}
use Rattle.leg_design_records.specs.WellFormedParts.{IsPosition, IsArea}
use Rattle.leg_design_common.proofs.Gives.{Gives, gives_none, gives_some, gives_bind, gives_skip, gives_if, gives_less}
use Rattle.leg_design_common.proofs.ReadPlacement.{whole_gives, spot_gives}
use Rattle.leg_design_common.proofs.SlabSides.{IsOf, slabs_give}

-- what holds of all slabs holds where there may be at most so many
upto_gives : (P : List RectModel → Type 0) (limit : ℕ) (points : List PointModel) → Gives P (slabs_of points) → Gives P (slabs_upto limit points)
upto_gives P limit points given = gives_if (nat_le (length (slabs points)) limit) given gives_none

-- slabs of points within the limit of coordinates are within it
pub slabs_lie : (limit : ℕ) (points : List PointModel) (rects : List RectModel) → All IsSpot points → slabs_upto limit points ≡ Some rects → All IsRect rects
slabs_lie limit points rects each said =
    All-weaker (IsOf IsCoordinate) IsRect (λ r is. record { x1 = is.x1; y1 = is.y1; x2 = is.x2; y2 = is.y2; wide = is.wide; high = is.high }) rects
    ((upto_gives _ limit points
    (slabs_give IsCoordinate points (All-weaker IsSpot (λ p. IsCoordinate p.x × IsCoordinate p.y) (λ p is. (is.x, is.y)) points each))).given rects said).0

area_is : (r : RectModel) → IsOf IsNumber r → IsArea r
area_is r is = record { x1 = is.x1; y1 = is.y1; x2 = is.x2; y2 = is.y2; proper = record { wide = is.wide; high = is.high } }

-- one rectangle at least, and each has area
abbrev pub AreAreas : List RectModel → Type 0
AreAreas rects = All IsArea rects × (1 ≤ length rects)

areas_give : (points : List PointModel) → All IsPosition points → Gives AreAreas (slabs_within points)
unfolding slabs_within
areas_give points each =
    upto_gives AreAreas POLYGON_SLABS points
    (gives_less (slabs_give IsNumber points (All-weaker IsPosition (λ p. IsNumber p.x × IsNumber p.y) (λ p is. (is.x, is.y)) points each))
    (λ rects are. (All-weaker (IsOf IsNumber) IsArea area_is rects are.0, are.1)))

coordinate_gives : (before : ℤ) (words : Words) → IsNumber before → Gives (λ said. IsNumber said.0) (coordinate_after before words)
unfolding coordinate_after
coordinate_gives before words number =
    gives_if (is_at (codes "*") words)
    (gives_skip (mark_at 42 words) (λ star. gives_some _ number))
    (whole_gives words)

point_gives : (before : PointModel) (words : Words) → IsPosition before → Gives (λ said. IsPosition said.0) (point_after before words)
unfolding point_after
point_gives before words position =
    gives_skip (mark_at 40 words) (λ open_.
    gives_bind (coordinate_gives before.x open_.1 position.x) (λ x wide.
    gives_bind (coordinate_gives before.y x.1 position.y) (λ y high.
    gives_skip (mark_at 41 y.1) (λ close.
    gives_some _ (record { x = wide; y = high })))))

abbrev ArePositions : List PointModel × PointModel → Type 0
ArePositions points = All IsPosition points.0 × IsPosition points.1

one_point_gives : (points : List PointModel × PointModel) (words : Words) → ArePositions points → Gives (λ said. ArePositions said.0) (one_point points words)
unfolding one_point
one_point_gives points words are =
    gives_bind (point_gives points.1 words are.1) (λ point position.
    gives_some _ (All-push IsPosition points.0 point.0 are.0 position, position))

pub polygon_gives : (words : Words) → Gives (λ said. AreAreas said.0) (polygon_at words)
unfolding polygon_at
polygon_gives words =
    gives_bind (spot_gives words) (λ first position.
    gives_bind (until_gives ArePositions at_no_point one_point one_point_gives (first.0 ∷ [], first.0) first.1
    (All-cons IsPosition first.0 [] position (All-nil IsPosition), position)) (λ points are.
    gives_bind (areas_give points.0.0 are.0) (λ slabs areas.
    gives_some _ areas)))
