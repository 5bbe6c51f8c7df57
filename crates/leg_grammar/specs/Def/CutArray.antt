-- The rectangles of a generated via: the lower plate, the cuts row by row, and the upper plate (LEF/DEF 5.8, "Vias", "Via"; that an array with an
-- odd side, and too many rectangles, are refused is lefdef's own rule).
use Rattle.std.specs.Prelude.{ℕ, zero, suc, ℤ, pos, Bool, ◌&&◌, ◌+◌, ◌+ℤ◌, ◌-ℤ◌, ◌*ℤ◌, int_lt, nat_le, if◌then◌else◌, List, [], ◌∷◌, ◌++◌, length, Option, None, Some}
use Rattle.std.specs.List.{list_any, list_all}
use Rattle.leg_lex.specs.Words.{Words, ◌>>=◌}
use Rattle.leg_lex.specs.Until.{over}
use Rattle.leg_geom.specs.Plane.{RectModel, halfway}
use Rattle.leg_lib_records.specs.declared.records.Shape.{Shape}
use Rattle.leg_lib_records.specs.Records.{LibraryModel, ViaModel}
use Rattle.leg_grammar.specs.declared.generated_via.Plate.{Plate}
use Rattle.leg_grammar.specs.declared.generated_via.CutArray.{CutArray}
use Rattle.leg_grammar.specs.declared.generated_via.GeneratedVia.{GeneratedVia}
use Rattle.leg_grammar.specs.Def.Guard.{when, unless, is_within}
use Rattle.leg_grammar.specs.Def.Clause.{is_clause}
use Rattle.leg_grammar.specs.Def.GeneratedVia.{is_drawn, generated_in}
use Rattle.leg_grammar.specs.Def.CutPattern.{PatternRows, pattern_in, has_cut}
use Rattle.leg_design_records.specs.declared.limits.TheConstants.{PART_LIMIT}
use Rattle.leg_design_records.specs.Wires.{is_even}

-- the sides of a rectangle are within the limit of numbers
abbrev pub are_within : RectModel → Bool
are_within r = is_within r.x1 && is_within r.y1 && is_within r.x2 && is_within r.y2

-- it has area besides
abbrev pub is_area : RectModel → Bool
is_area r = are_within r && int_lt r.x1 r.x2 && int_lt r.y1 r.y2

unfoldable pub area_of : RectModel → Option RectModel
area_of r = if is_area r then Some r else None

-- the side of an array of so many cuts, with gaps between them
abbrev pub array_side : ℕ → ℤ → ℤ → ℤ
array_side count side gap = pos count *ℤ (side +ℤ gap) -ℤ gap

-- the columns make its width, and the rows its height
abbrev pub array_width : CutArray → ℤ
array_width cuts = array_side cuts.columns cuts.cut.x cuts.gap.x

abbrev pub array_height : CutArray → ℤ
array_height cuts = array_side cuts.rows cuts.cut.y cuts.gap.y

-- the rectangle round an array with these sides, which lies about its middle
abbrev pub array_sides : CutArray → ℤ → ℤ → RectModel
array_sides cuts width height = record {
  x1 = cuts.middle.x -ℤ halfway (pos 0) width;
  y1 = cuts.middle.y -ℤ halfway (pos 0) height;
  x2 = cuts.middle.x +ℤ halfway (pos 0) width;
  y2 = cuts.middle.y +ℤ halfway (pos 0) height;
}

-- the rectangle round the cuts, whose sides are even
unfoldable pub array_of : CutArray → Option RectModel
array_of cuts =
    if is_even (array_width cuts) && is_even (array_height cuts) then area_of (array_sides cuts (array_width cuts) (array_height cuts)) else None

-- a plate reaches beyond the cuts, and is moved
abbrev pub plate_sides : RectModel → Plate → RectModel
plate_sides array plate = record {
  x1 = array.x1 -ℤ plate.reach.x +ℤ plate.shift.x;
  y1 = array.y1 -ℤ plate.reach.y +ℤ plate.shift.y;
  x2 = array.x2 +ℤ plate.reach.x +ℤ plate.shift.x;
  y2 = array.y2 +ℤ plate.reach.y +ℤ plate.shift.y;
}

-- where the cut of this number begins, of cuts that begin there one after the other
abbrev pub cut_start : ℤ → ℕ → ℤ → ℤ → ℤ
cut_start start number side gap = start +ℤ pos number *ℤ (side +ℤ gap)

-- the cut of this row and this column, which both count from 0, from the lower left corner on
abbrev pub cut_sides : RectModel → CutArray → ℕ → ℕ → RectModel
cut_sides array cuts row column = record {
  x1 = cut_start array.x1 column cuts.cut.x cuts.gap.x;
  y1 = cut_start array.y1 row cuts.cut.y cuts.gap.y;
  x2 = cut_start array.x1 column cuts.cut.x cuts.gap.x +ℤ cuts.cut.x;
  y2 = cut_start array.y1 row cuts.cut.y cuts.gap.y +ℤ cuts.cut.y;
}

-- one more rectangle, where it is one
abbrev pub with_area : ℕ → Option RectModel → List Shape → Option (List Shape)
with_area layer None shapes = None
with_area layer (Some rect) shapes = Some (shapes ++ record { layer = layer; rect = rect } ∷ [])

-- one more plate
unfoldable pub with_plate : RectModel → List Shape → Plate → Option (List Shape)
with_plate array shapes plate = with_area plate.layer (area_of (plate_sides array plate)) shapes

-- the rectangle round the cuts, what is said of them, and the pattern that says which of them there are, if there is one
pub record PlacedCuts : Type 0 where
  pub array : RectModel
  pub cuts : CutArray
  pub pattern : Option (List PatternRows)

-- one more cut, in this row, if it is there
unfoldable pub with_cut : PlacedCuts → ℕ → List Shape → ℕ → Option (List Shape)
with_cut placed row shapes column =
    if has_cut placed.pattern row column then with_area placed.cuts.layer (area_of (cut_sides placed.array placed.cuts row column)) shapes
    else Some shapes

-- so many numbers one after the other, from the first on
unfoldable pub numbers_from : ℕ → ℕ → List ℕ
numbers_from first zero = []
numbers_from first (suc more) = first ∷ numbers_from (first + 1) more

-- one more row of cuts
unfoldable pub with_row : PlacedCuts → List Shape → ℕ → Option (List Shape)
with_row placed shapes row = over (with_cut placed row) shapes (numbers_from 0 placed.cuts.columns)

-- the rectangles of the whole via
unfoldable pub array_shapes : Option (List PatternRows) → GeneratedVia → Option (List Shape)
array_shapes pattern via = do
  array ← array_of via.cuts
  low ← with_plate array [] via.low
  cuts ← over (with_row (record { array = array; cuts = via.cuts; pattern = pattern })) low (numbers_from 0 via.cuts.rows)
  with_plate array cuts via.high

-- how many rectangles the vias have
abbrev pub shape_count : List ViaModel → ℕ
shape_count [] = 0
shape_count (via ∷ vias) = length via.shapes + shape_count vias

-- there may be so many more rectangles of vias
abbrev pub is_room_for_shapes : List ViaModel → ℕ → Bool
is_room_for_shapes vias count = nat_le (shape_count vias + count) PART_LIMIT

-- the rectangles that the clauses of a generated via say, where these vias came before
unfoldable pub generated_shapes : LibraryModel → List ViaModel → List Words → Option (List Shape)
generated_shapes library vias clauses = do
  none ← unless (list_any is_drawn clauses)
  each ← when (list_all is_clause clauses)
  via ← generated_in library clauses
  pattern ← pattern_in clauses
  shapes ← array_shapes pattern via
  room ← when (is_room_for_shapes vias (length shapes))
  Some shapes
