-- The points of a polygon, and the polygon, take words.
use Rattle.std.proofs.Common.{◌≡◌, ◌<◌, ℤ, List, [], ◌∷◌, ◌++◌, length, Some, codes, arith}
use Rattle.leg_lex.specs.Words.{Words, is_at}
use Rattle.leg_lex.proofs.Shorter.{mark_below, whole_below}
use Rattle.leg_lex.proofs.Until.{Below, Shortens, below_some, below_bind, below_ask, below_if, until_below}
use Rattle.leg_geom.specs.Plane.{PointModel}
use Rattle.leg_grammar.specs.Lef.Polygon.{slabs_within}
use Rattle.leg_grammar.specs.Def.Polygon.{coordinate_after, point_after, one_point, at_no_point, polygon_at}
use Rattle.leg_design_common.proofs.Spots.{spot_below}

coordinate_below : (before : ℤ) (words : Words) → Below (length words) (coordinate_after before words)
unfolding coordinate_after
coordinate_below before words =
    below_if (is_at (codes "*") words)
    (below_bind (omega arith) (mark_below 42 words) (λ star less. below_some before star.1 less))
    (whole_below words)

point_below : (before : PointModel) (words : Words) → Below (length words) (point_after before words)
unfolding point_after
point_below before words =
    below_bind (omega arith) (mark_below 40 words) (λ open_ less.
    below_bind (omega arith) (coordinate_below before.x open_.1) (λ x fewer.
    below_bind (omega arith) (coordinate_below before.y x.1) (λ y shorter.
    below_bind (omega arith) (mark_below 41 y.1) (λ close last.
    below_some (record { x = x.0; y = y.0 }) close.1 last))))

pub one_point_shortens : Shortens one_point
unfolding one_point
one_point_shortens points words =
    below_bind (omega arith) (point_below points.1 words) (λ point less. below_some (points.0 ++ point.0 ∷ [], point.0) point.1 less)

pub one_point_shorter : (points more : List PointModel × PointModel) (words rest : Words) → one_point points words ≡ Some (more, rest)
    → length rest < length words
one_point_shorter points more words rest said = (one_point_shortens points words).left more rest said

-- a polygon takes a word
pub polygon_below : (words : Words) → Below (length words) (polygon_at words)
unfolding polygon_at
polygon_below words =
    below_bind (omega arith) (spot_below words) (λ first less.
    below_bind (omega arith) (until_below at_no_point one_point one_point_shortens (first.0 ∷ [], first.0) first.1) (λ points no_more.
    below_ask (slabs_within points.0.0) (λ slabs. below_some slabs points.1 (omega arith))))
