-- The points of a polygon: each takes a word, and they end where no word is left.
use Rattle.std.proofs.Common.{◌≡◌, ◌<◌, true, false, List, [], ◌∷◌, ◌++◌, length, map, Result, Ok, Err, ℕ, ℤ, Some, codes, refl, arith}
use Rattle.std.proofs.lemmas.List.{map-id}
use Rattle.leg_lex.specs.Number.{micron_of}
use Rattle.leg_lex.specs.Words.{Words, is_at, said_number, length_at}
use Rattle.leg_lex.proofs.Shorter.{next_below, mark_below}
use Rattle.leg_lex.proofs.Until.{Below, Shortens, below_none, below_some, below_bind, below_if}
use Rattle.leg_geom.specs.Plane.{PointModel}
use Rattle.leg_grammar.specs.Def.Guard.{is_over}
use Rattle.leg_grammar.specs.Lef.Point.{coordinates_at, enclosed_point_at, point_at}
use Rattle.leg_grammar.specs.Lef.Polygon.{one_point}

pub over_is : (words : Words) → words ≡ [] → is_over words ≡ true
over_is words none = rw none refl

pub not_over_is : (words : Words) → (words ≡ [] → ⊥) → is_over words ≡ false
not_over_is [] some = absurd (some refl)
not_over_is (word ∷ words) some = refl

pub as_they_are : (points : List PointModel) → map (λ point. record { x = point.x; y = point.y }) points ≡ points
as_they_are points = map-id points

-- a number leaves the words that it is given
number_below : {E : Type 0} {n : ℕ} (number : Result ℤ E) (words : Words) → length words < n → Below n (said_number number words)
number_below (Ok z) words less = below_some z words less
number_below {n = n} (Err fault) words less = below_none n

length_below : (words : Words) → Below (length words) (length_at words)
unfolding length_at
length_below words = below_bind (omega arith) (next_below words) (λ next less. number_below (micron_of next.0) next.1 less)

coordinates_below : (words : Words) → Below (length words) (coordinates_at words)
unfolding coordinates_at
coordinates_below words =
    below_bind (omega arith) (length_below words) (λ x less.
    below_bind (omega arith) (length_below x.1) (λ y fewer.
    below_some (record { x = x.0; y = y.0 }) y.1 fewer))

enclosed_below : (words : Words) → Below (length words) (enclosed_point_at words)
unfolding enclosed_point_at
enclosed_below words =
    below_bind (omega arith) (mark_below 40 words) (λ open_ less.
    below_bind (omega arith) (coordinates_below open_.1) (λ point fewer.
    below_bind (omega arith) (mark_below 41 point.1) (λ close last.
    below_some point.0 close.1 last)))

point_below : (words : Words) → Below (length words) (point_at words)
unfolding point_at
point_below words = below_if (is_at (codes "(") words) (enclosed_below words) (coordinates_below words)

pub one_point_shortens : Shortens one_point
unfolding one_point
one_point_shortens points words =
    below_bind (omega arith) (point_below words) (λ point less. below_some (points ++ point.0 ∷ []) point.1 less)

pub one_point_shorter : (points more : List PointModel) (words rest : Words) → one_point points words ≡ Some (more, rest) → length rest < length words
one_point_shorter points more words rest said = (one_point_shortens points words).left more rest said
