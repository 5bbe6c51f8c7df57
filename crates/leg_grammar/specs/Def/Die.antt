-- The die area (LEF/DEF 5.8, "Die Area"; that it is a rectangle is lefdef's own rule).
use Rattle.std.specs.Prelude.{Bool, not, ◌&&◌, ◌||◌, if◌then◌else◌, List, [], ◌∷◌, ◌++◌, Option, None, Some, codes}
use Rattle.std.specs.Ordering.{int_eq}
use Rattle.leg_lex.specs.Words.{Words, ◌>>=◌, is_at, keyword_at, mark_at}
use Rattle.leg_lex.specs.Until.{until}
use Rattle.leg_geom.specs.Plane.{PointModel, RectModel}
use Rattle.leg_lib_records.specs.Measure.{rect_between}
use Rattle.leg_grammar.specs.Def.Placement.{spot_at}

-- one more point
unfoldable pub one_spot : List PointModel → Words → Option (List PointModel × Words)
one_spot spots words = do
  spot ← spot_at words
  Some (spots ++ spot.0 ∷ [], spot.1)

abbrev pub at_no_spot : Words → Bool
at_no_spot words = not (is_at (codes "(") words)

abbrev pub have_one_x : PointModel → PointModel → Bool
have_one_x p q = int_eq p.x q.x

abbrev pub have_one_y : PointModel → PointModel → Bool
have_one_y p q = int_eq p.y q.y

-- four points one after the other go round a rectangle, from any corner and in either sense
abbrev pub go_round : PointModel → PointModel → PointModel → PointModel → Bool
go_round p q r s =
    (have_one_x p q && have_one_y q r && have_one_x r s && have_one_y s p)
    || (have_one_y p q && have_one_x q r && have_one_y r s && have_one_x s p)

-- two corners, or four points that go round a rectangle
abbrev pub die_of : List PointModel → Option RectModel
die_of (p ∷ q ∷ []) = rect_between p q
die_of (p ∷ q ∷ r ∷ s ∷ []) = if go_round p q r s then rect_between p r else None
die_of spots = None

-- DIEAREA points ;
unfoldable pub die_at : Words → Option (RectModel × Words)
die_at words = do
  start ← keyword_at (codes "DIEAREA") words
  spots ← until at_no_spot one_spot [] start.1
  end ← mark_at 59 spots.1
  die ← die_of spots.0
  Some (die, end.1)
