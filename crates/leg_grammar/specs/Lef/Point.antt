-- Points, sizes and rectangles as LEF writes them (LEF/DEF 5.8, "Macro"; that a point may be in
-- parentheses, and that corners are in any order, are lefdef's own rules).
use Rattle.std.specs.Prelude.{pos, ◌&&◌, int_lt, if◌then◌else◌, Option, None, Some, codes}
use Rattle.leg_lex.specs.Words.{Words, ◌>>=◌, is_at, keyword_at, mark_at, length_at, nothing_at}
use Rattle.leg_geom.specs.Plane.{PointModel, RectModel}
use Rattle.leg_lib_records.specs.Measure.{ExtentModel, rect_between}
use Rattle.leg_grammar.specs.declared.profile.Profile.{Profile}
use Rattle.leg_grammar.specs.Mask.{past_mask}

-- LEN LEN
unfoldable pub coordinates_at : Words → Option (PointModel × Words)
coordinates_at words = do
  x ← length_at words
  y ← length_at x.1
  Some (record { x = x.0; y = y.0 }, y.1)

-- ( LEN LEN ): 40 and 41 are the parentheses
unfoldable pub enclosed_point_at : Words → Option (PointModel × Words)
enclosed_point_at words = do
  open_ ← mark_at 40 words
  point ← coordinates_at open_.1
  close ← mark_at 41 point.1
  Some (point.0, close.1)

-- a point: LEN LEN or ( LEN LEN )
unfoldable pub point_at : Words → Option (PointModel × Words)
point_at words = if is_at (codes "(") words then enclosed_point_at words else coordinates_at words

-- RECT point point, in the wide profile with a mask before the points
unfoldable pub rect_in : Profile → Words → Option RectModel
rect_in profile statement = do
  start ← keyword_at (codes "RECT") statement
  mask ← past_mask profile start.1
  p ← point_at mask.1
  q ← point_at p.1
  end ← nothing_at q.1
  rect_between p.0 q.0

-- SIZE LEN BY LEN: a width and a height, both above 0
unfoldable pub size_in : Words → Option ExtentModel
size_in statement = do
  start ← keyword_at (codes "SIZE") statement
  width ← length_at start.1
  by ← keyword_at (codes "BY") width.1
  height ← length_at by.1
  end ← nothing_at height.1
  if int_lt (pos 0) width.0 && int_lt (pos 0) height.0 then Some (record { width = width.0; height = height.0 }) else None
