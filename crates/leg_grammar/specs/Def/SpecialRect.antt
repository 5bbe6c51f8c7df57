-- Rectangles of SPECIALNETS (LEF/DEF 5.8, "Special Wiring Statement"; that one is kept as segments, and as which, is lefdef's
-- own rule).
use Rattle.std.specs.Prelude.{ℕ, pos, ◌+ℤ◌, ◌-ℤ◌, int_lt, if◌then◌else◌, List, [], ◌∷◌, Option, None, Some, codes}
use Rattle.leg_lex.specs.Words.{Words, ◌>>=◌, keyword_at}
use Rattle.leg_geom.specs.Plane.{RectModel, centre}
use Rattle.leg_design_records.specs.declared.records.Wire.{Wire}
use Rattle.leg_design_records.specs.declared.records.Wire.TheVariants.{Segment}
use Rattle.leg_design_records.specs.Wires.{is_even}
use Rattle.leg_grammar.specs.Def.Guard.{when, is_within}
use Rattle.leg_grammar.specs.Def.NetScope.{NetScopeModel}
use Rattle.leg_grammar.specs.Def.Placement.{rect_at}
use Rattle.leg_grammar.specs.Def.Wiring.{routing_at}

-- the segment along x in the middle of a rectangle, as wide as the rectangle is high, where that is within the limit of
-- numbers
unfoldable pub segment_along_x : ℕ → RectModel → Option Wire
segment_along_x layer rect = do
  within ← when (is_within (rect.y2 -ℤ rect.y1))
  Some (Segment layer (record { x = rect.x1; y = (centre rect).y }) (record { x = rect.x2; y = (centre rect).y })
      (rect.y2 -ℤ rect.y1) (pos 0) (pos 0))

-- the same along y
unfoldable pub segment_along_y : ℕ → RectModel → Option Wire
segment_along_y layer rect = do
  within ← when (is_within (rect.x2 -ℤ rect.x1))
  Some (Segment layer (record { x = (centre rect).x; y = rect.y1 }) (record { x = (centre rect).x; y = rect.y2 })
      (rect.x2 -ℤ rect.x1) (pos 0) (pos 0))

-- The two segments along x of a rectangle without its highest row of unit squares, and without its lowest.
unfoldable pub two_along_x : ℕ → RectModel → Option (List Wire)
two_along_x layer rect = do
  low ← segment_along_x layer (record rect { y2 = rect.y2 -ℤ pos 1 })
  high ← segment_along_x layer (record rect { y1 = rect.y1 +ℤ pos 1 })
  Some (low ∷ high ∷ [])

-- The two segments along y of a rectangle without its last column of unit squares, and without its first.
unfoldable pub two_along_y : ℕ → RectModel → Option (List Wire)
two_along_y layer rect = do
  left ← segment_along_y layer (record rect { x2 = rect.x2 -ℤ pos 1 })
  right ← segment_along_y layer (record rect { x1 = rect.x1 +ℤ pos 1 })
  Some (left ∷ right ∷ [])

-- Segments whose metal together is the rectangle: one along x where its height is even, one along y where its width is; where
-- both are odd, two along x, or two along y where the rectangle is one unit high. A square unit denotes none.
unfoldable pub rect_wires : ℕ → RectModel → Option (List Wire)
rect_wires layer rect =
    if is_even (rect.y2 -ℤ rect.y1) then (segment_along_x layer rect >>= λ wire. Some (wire ∷ []))
    else (if is_even (rect.x2 -ℤ rect.x1) then (segment_along_y layer rect >>= λ wire. Some (wire ∷ []))
    else (if int_lt (pos 1) (rect.y2 -ℤ rect.y1) then two_along_x layer rect
    else (if int_lt (pos 1) (rect.x2 -ℤ rect.x1) then two_along_y layer rect else None)))

-- RECT layer ( x y ) ( x y )
unfoldable pub special_rect_at : NetScopeModel → Words → Option (List Wire × Words)
special_rect_at scope clause = do
  start ← keyword_at (codes "RECT") clause
  layer ← routing_at scope.library start.1
  rect ← rect_at layer.1
  wires ← rect_wires layer.0 rect.0
  Some (wires, rect.1)
