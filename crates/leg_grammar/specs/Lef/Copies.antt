-- Copies of rectangles and polygons of ports and obstructions (LEF/DEF 5.8, "Layer Geometries"; how many rectangles copies
-- may have, and that they lie within the limit of lengths, are lefdef's own rules).
use Rattle.std.specs.Prelude.{ℕ, zero, suc, ℤ, ◌+ℤ◌, ◌*◌, Bool, false, ◌&&◌, ◌||◌, nat_le, if◌then◌else◌, List, [], ◌∷◌, ◌++◌, length, Option, None, Some, unsigned_abs, codes}
use Rattle.leg_lex.specs.Words.{Words, ◌>>=◌, is_at, next_at, keyword_at, length_at, nothing_at}
use Rattle.leg_lex.specs.Until.{until, over}
use Rattle.leg_lex.specs.declared.limits.TheConstants.{MILLIONTHS_LIMIT}
use Rattle.leg_geom.specs.Plane.{PointModel, RectModel}
use Rattle.leg_lib_records.specs.declared.raw.RawShape.{RawShape}
use Rattle.leg_lib_records.specs.Measure.{rect_between}
use Rattle.leg_grammar.specs.declared.limits.TheConstants.{COPY_LIMIT}
use Rattle.leg_grammar.specs.declared.profile.Profile.{Profile}
use Rattle.leg_grammar.specs.Def.Guard.{when}
use Rattle.leg_grammar.specs.Def.ViaArray.{number_from_one}
use Rattle.leg_grammar.specs.Profiles.{is_wide}
use Rattle.leg_grammar.specs.Mask.{past_mask}
use Rattle.leg_grammar.specs.Lef.Point.{point_at}
use Rattle.leg_grammar.specs.Lef.Polygon.{one_point, slabs_within}

-- how copies lie: columns along x and rows along y, each at a step from the one before
pub record StepPattern : Type 0 where
  pub columns : ℕ
  pub rows : ℕ
  pub x_step : ℤ
  pub y_step : ℤ

-- DO columns BY rows STEP x y
unfoldable pub pattern_at : Words → Option (StepPattern × Words)
pattern_at words = do
  start ← keyword_at (codes "DO") words
  columns ← number_from_one start.1
  by ← keyword_at (codes "BY") columns.1
  rows ← number_from_one by.1
  step ← keyword_at (codes "STEP") rows.1
  x ← length_at step.1
  y ← length_at x.1
  Some (record { columns = columns.0; rows = rows.0; x_step = x.0; y_step = y.0 }, y.1)

-- the words behind the first one and a mask
unfoldable pub behind_mask : Profile → Words → Option Words
behind_mask profile statement = do
  first ← next_at statement
  mask ← past_mask profile first.1
  Some mask.1

-- ITERATE comes next
abbrev pub at_iterate : Option Words → Bool
at_iterate None = false
at_iterate (Some words) = is_at (codes "ITERATE") words

-- the statement is a rectangle or a polygon with ITERATE, of which copies are read
abbrev pub is_iterated : Profile → Words → Bool
is_iterated profile statement =
    is_wide profile && (is_at (codes "RECT") statement || is_at (codes "POLYGON") statement) && at_iterate (behind_mask profile statement)

-- the rectangle between two corners
unfoldable pub copied_rect : Words → Option (List RectModel × Words)
copied_rect words = do
  p ← point_at words
  q ← point_at p.1
  rect ← rect_between p.0 q.0
  Some (rect ∷ [], q.1)

abbrev pub at_pattern : Words → Bool
at_pattern words = is_at (codes "DO") words

-- the slabs of the polygon whose points come before the pattern
unfoldable pub copied_polygon : Words → Option (List RectModel × Words)
copied_polygon words = do
  points ← until at_pattern one_point [] words
  slabs ← slabs_within points.0
  Some (slabs, points.1)

-- the rectangles of what is copied
abbrev pub figure_at : Bool → Words → Option (List RectModel × Words)
figure_at is_rect words = if is_rect then copied_rect words else copied_polygon words

-- RECT or POLYGON, a mask, ITERATE, its points and a pattern: its rectangles, and how their copies lie
unfoldable pub copies_in : Profile → Words → Option (List RectModel × StepPattern)
copies_in profile statement = do
  words ← behind_mask profile statement
  start ← keyword_at (codes "ITERATE") words
  figure ← figure_at (is_at (codes "RECT") statement) start.1
  pattern ← pattern_at figure.1
  end ← nothing_at pattern.1
  Some (figure.0, pattern.0)

-- a number of millionths of a micron that lies within the limit of lengths
unfoldable pub length_within : ℤ → Option ℤ
length_within z = if nat_le (unsigned_abs z) MILLIONTHS_LIMIT then Some z else None

-- a rectangle, moved this way
unfoldable pub moved_rect : PointModel → RectModel → Option RectModel
moved_rect way rect = do
  x1 ← length_within (rect.x1 +ℤ way.x)
  y1 ← length_within (rect.y1 +ℤ way.y)
  x2 ← length_within (rect.x2 +ℤ way.x)
  y2 ← length_within (rect.y2 +ℤ way.y)
  Some (record { x1 = x1; y1 = y1; x2 = x2; y2 = y2 })

-- shapes and, behind them, one that is moved this way, on its layer
unfoldable pub with_moved : PointModel → List RawShape → RawShape → Option (List RawShape)
with_moved way shapes shape = do
  rect ← moved_rect way shape.rect
  Some (shapes ++ record { layer = shape.layer; rect = rect } ∷ [])

-- shapes and, behind them, a row of copies of a figure, the first moved this way and each by the step from the one before
unfoldable pub with_row : List RawShape → ℤ → ℕ → PointModel → List RawShape → Option (List RawShape)
with_row figure step zero way shapes = Some shapes
with_row figure step (suc n) way shapes = do
  x ← length_within way.x
  copied ← over (with_moved (record { x = x; y = way.y })) shapes figure
  with_row figure step n (record { x = x +ℤ step; y = way.y }) copied

-- the same of rows, the first moved this way and each by the step from the one before
unfoldable pub with_rows : List RawShape → StepPattern → ℕ → PointModel → List RawShape → Option (List RawShape)
with_rows figure pattern zero way shapes = Some shapes
with_rows figure pattern (suc n) way shapes = do
  y ← length_within way.y
  copied ← with_row figure pattern.x_step pattern.columns (record { x = way.x; y = y }) shapes
  with_rows figure pattern n (record { x = way.x; y = y +ℤ pattern.y_step }) copied

-- the copies of a figure have no more rectangles than those of a statement may have
abbrev pub are_few_copies : StepPattern → List RawShape → Bool
are_few_copies pattern figure = nat_le (pattern.columns * pattern.rows * length figure) COPY_LIMIT

-- shapes and, behind them, all copies of a figure, row by row, the first moved this way
unfoldable pub with_copies : List RawShape → StepPattern → PointModel → List RawShape → Option (List RawShape)
with_copies figure pattern way shapes = do
  few ← when (are_few_copies pattern figure)
  with_rows figure pattern pattern.rows way shapes
