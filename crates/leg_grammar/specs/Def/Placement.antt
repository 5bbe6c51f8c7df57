-- Points, rectangles, orientations and places as DEF writes them (LEF/DEF 5.8, "Components", "Pins").
use Rattle.std.specs.Prelude.{ℕ, if◌then◌else◌, List, Option, None, Some, codes, Bool, ◌||◌}
use Rattle.leg_lex.specs.Words.{Words, ◌>>=◌, is_keyword, is_at, next_at, mark_at, whole_at, nothing_at}
use Rattle.leg_geom.specs.Plane.{PointModel, RectModel}
use Rattle.leg_geom.specs.declared.orient.Orient.{Orient}
use Rattle.leg_geom.specs.declared.orient.Orient.TheVariants.{N, S, W, E, FN, FS, FW, FE}
use Rattle.leg_geom.specs.declared.place.Place.{Place}
use Rattle.leg_lib_records.specs.Measure.{rect_between}
use Rattle.leg_design_records.specs.declared.records.Status.{Status}
use Rattle.leg_design_records.specs.declared.records.Status.TheVariants.{Placed, Fixed, Cover}

-- ( x y ): 40 and 41 are the parentheses
unfoldable pub spot_at : Words → Option (PointModel × Words)
spot_at words = do
  open_ ← mark_at 40 words
  x ← whole_at open_.1
  y ← whole_at x.1
  close ← mark_at 41 y.1
  Some (record { x = x.0; y = y.0 }, close.1)

-- ( x y ) ( x y ): the rectangle between two corners, which are in any order
unfoldable pub rect_at : Words → Option (RectModel × Words)
rect_at words = do
  p ← spot_at words
  q ← spot_at p.1
  rect ← rect_between p.0 q.0
  Some (rect, q.1)

abbrev pub orient_of : List ℕ → Option Orient
orient_of word =
    if is_keyword (codes "N") word then Some N
    else (if is_keyword (codes "S") word then Some S
    else (if is_keyword (codes "W") word then Some W
    else (if is_keyword (codes "E") word then Some E
    else (if is_keyword (codes "FN") word then Some FN
    else (if is_keyword (codes "FS") word then Some FS
    else (if is_keyword (codes "FW") word then Some FW
    else (if is_keyword (codes "FE") word then Some FE else None)))))))

-- one of the eight orientations
unfoldable pub orient_at : Words → Option (Orient × Words)
orient_at words = do
  word ← next_at words
  orient ← orient_of word.0
  Some (orient, word.1)

-- ( x y ) orientation
unfoldable pub place_at : Words → Option (Place × Words)
place_at words = do
  at ← spot_at words
  orient ← orient_at at.1
  Some (record { at = at.0; orient = orient.0 }, orient.1)

-- the place after a keyword that denotes this status
unfoldable pub place_as : Status → Words → Option (Status × Place)
place_as status clause = do
  start ← next_at clause
  place ← place_at start.1
  end ← nothing_at place.1
  Some (status, place.0)

-- whether a clause gives a place
abbrev pub says_place : Words → Bool
says_place clause = is_at (codes "PLACED") clause || is_at (codes "FIXED") clause || is_at (codes "COVER") clause

-- PLACED, FIXED or COVER with a place
unfoldable pub placed_in : Words → Option (Status × Place)
placed_in clause =
    if is_at (codes "PLACED") clause then place_as Placed clause
    else (if is_at (codes "FIXED") clause then place_as Fixed clause
    else (if is_at (codes "COVER") clause then place_as Cover clause else None))
