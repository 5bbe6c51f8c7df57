-- Points, corners and orientations are read back.
use Rattle.std.proofs.Common.{◌≡◌, ◌∷◌, ◌++◌, Some, codes, ℤ, ◌<ℤ◌, refl}
use Rattle.std.specs.Fmt.{signed_decimal}
use Rattle.std.specs.Int.{int_min, int_max}
use Rattle.leg_lemmas.proofs.Integers.{lt_test, not_lt_test}
use Rattle.leg_lex.specs.Words.{Words, next_at, mark_at, whole_at}
use Rattle.leg_lex.specs.Number.{IsNumber}
use Rattle.leg_print_words.proofs.Numbers.{number_word}
use Rattle.leg_geom.specs.Plane.{PointModel, RectModel}
use Rattle.leg_geom.specs.declared.orient.Orient.{Orient}
use Rattle.leg_geom.specs.declared.orient.Orient.TheVariants.{N, S, W, E, FN, FS, FW, FE}
use Rattle.leg_geom.specs.declared.place.Place.{Place}
use Rattle.leg_lib_records.specs.Measure.{IsProper, rect_between}
use Rattle.leg_design_records.specs.WellFormedParts.{IsPosition, IsArea}
use Rattle.leg_grammar.specs.Def.Placement.{spot_at, rect_at, orient_of, orient_at, place_at}
use Rattle.leg_output.specs.Text.Points.{spot_words, corner_words, orient_word, place_words}
use Rattle.leg_print_laws.proofs.FreeWords.{IsFree, AreFree, free_literal, free_number, free_nil, free_cons, free_append}

-- a number among words
pub number_again : (z : ℤ) (rest : Words) → IsNumber z → whole_at (signed_decimal z ∷ rest) ≡ Some (z, rest)
unfolding whole_at next_at
number_again z rest is = rw ((number_word z is).back) refl

pub spot_again : (p : PointModel) (rest : Words) → IsPosition p → spot_at (spot_words p ++ rest) ≡ Some (p, rest)
unfolding spot_at mark_at next_at
spot_again p rest is = rw (number_again p.x _ is.x, number_again p.y _ is.y) refl

pub spot_free : (p : PointModel) → IsPosition p → AreFree (spot_words p)
spot_free p is =
    free_cons (free_literal (codes "(") refl refl refl) (free_cons (free_number p.x is.x) (free_cons (free_number p.y is.y)
    (free_cons (free_literal (codes ")") refl refl refl) free_nil)))

lower_is : (r : RectModel) → IsArea r → IsPosition (record { x = r.x1; y = r.y1 })
lower_is r is = record { x = is.x1; y = is.y1 }

upper_is : (r : RectModel) → IsArea r → IsPosition (record { x = r.x2; y = r.y2 })
upper_is r is = record { x = is.x2; y = is.y2 }

least : (a b : ℤ) → a <ℤ b → int_min a b ≡ a
least a b less = rw (not_lt_test a b less) refl

most : (a b : ℤ) → a <ℤ b → int_max a b ≡ b
most a b less = rw (not_lt_test a b less) refl

-- corners, the lower left first
pub between_again : (r : RectModel) → IsProper r → rect_between (record { x = r.x1; y = r.y1 }) (record { x = r.x2; y = r.y2 }) ≡ Some r
unfolding rect_between
between_again r is =
    rw (
      least r.x1 r.x2 is.wide,
      least r.y1 r.y2 is.high,
      most r.x1 r.x2 is.wide,
      most r.y1 r.y2 is.high,
      lt_test r.x1 r.x2 is.wide,
      lt_test r.y1 r.y2 is.high,
    ) refl

pub corners_again : (r : RectModel) (rest : Words) → IsArea r → rect_at (corner_words r ++ rest) ≡ Some (r, rest)
unfolding rect_at
corners_again r rest is =
    rw (
      spot_again (record { x = r.x1; y = r.y1 }) _ (lower_is r is),
      spot_again (record { x = r.x2; y = r.y2 }) rest (upper_is r is),
      between_again r is.proper,
    ) refl

pub corners_free : (r : RectModel) → IsArea r → AreFree (corner_words r)
corners_free r is = free_append (spot_free (record { x = r.x1; y = r.y1 }) (lower_is r is)) (spot_free (record { x = r.x2; y = r.y2 }) (upper_is r is))

pub orient_word_again : (orient : Orient) → orient_of (orient_word orient) ≡ Some orient
orient_word_again N = refl
orient_word_again S = refl
orient_word_again W = refl
orient_word_again E = refl
orient_word_again FN = refl
orient_word_again FS = refl
orient_word_again FW = refl
orient_word_again FE = refl

pub orient_again : (orient : Orient) (rest : Words) → orient_at (orient_word orient ∷ rest) ≡ Some (orient, rest)
unfolding orient_at next_at
orient_again orient rest = rw (orient_word_again orient) refl

pub orient_free : (orient : Orient) → IsFree (orient_word orient)
orient_free N = free_literal (codes "N") refl refl refl
orient_free S = free_literal (codes "S") refl refl refl
orient_free W = free_literal (codes "W") refl refl refl
orient_free E = free_literal (codes "E") refl refl refl
orient_free FN = free_literal (codes "FN") refl refl refl
orient_free FS = free_literal (codes "FS") refl refl refl
orient_free FW = free_literal (codes "FW") refl refl refl
orient_free FE = free_literal (codes "FE") refl refl refl

pub place_again : (place : Place) (rest : Words) → IsPosition place.at → place_at (place_words place ++ rest) ≡ Some (place, rest)
unfolding place_at
place_again place rest is = rw (spot_again place.at _ is, orient_again place.orient rest) refl

pub place_free : (place : Place) → IsPosition place.at → AreFree (place_words place)
place_free place is = free_append (spot_free place.at is) (free_cons (orient_free place.orient) free_nil)
