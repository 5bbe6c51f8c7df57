-- Clauses of a generated via, which is an array of cuts between two plates (LEF/DEF 5.8, "Vias", "Via"; that the rule isn't looked up, how
-- many cuts there may be, and how long the lengths of a LEF are, are lefdef's own rules).
use Rattle.std.specs.Prelude.{ℕ, ℤ, pos, Bool, not, ◌&&◌, ◌||◌, ◌*◌, int_le, nat_le, List, Option, None, Some, unsigned_abs, codes}
use Rattle.std.specs.List.{list_any}
use Rattle.leg_lex.specs.Words.{Words, ◌>>=◌, is_at, keyword_at, word_at, whole_at, length_at, nothing_at}
use Rattle.leg_lex.specs.Statements.{only, the}
use Rattle.leg_geom.specs.Plane.{PointModel}
use Rattle.leg_lib_records.specs.Records.{LibraryModel}
use Rattle.leg_grammar.specs.declared.generated_via.TheConstants.{CUT_LIMIT}
use Rattle.leg_grammar.specs.declared.generated_via.ViaNumbers.{ViaNumbers}
use Rattle.leg_grammar.specs.declared.generated_via.ViaNumbers.TheVariants.{Units, Microns}
use Rattle.leg_grammar.specs.declared.generated_via.ViaLayers.{ViaLayers}
use Rattle.leg_grammar.specs.declared.generated_via.Plate.{Plate}
use Rattle.leg_grammar.specs.declared.generated_via.CutArray.{CutArray}
use Rattle.leg_grammar.specs.declared.generated_via.GeneratedVia.{GeneratedVia}
use Rattle.leg_grammar.specs.Def.Guard.{when, is_within}
use Rattle.leg_grammar.specs.Def.Layers.{layer_named_at}
use Rattle.leg_design_records.specs.Layers.{has_metal, is_routing}

-- a via is generated if one of its clauses is VIARULE
abbrev pub is_generated : List Words → Bool
is_generated clauses = list_any (is_at (codes "VIARULE")) clauses

-- the clauses of vias that are drawn, and masks: a generated via has none of them
abbrev pub is_drawn : Words → Bool
is_drawn clause =
    is_at (codes "RECT") clause || is_at (codes "POLYGON") clause || is_at (codes "PATTERNNAME") clause || is_at (codes "MASK") clause

-- what stands behind the keyword of a clause that there is exactly once
unfoldable pub after_keyword : List ℕ → List Words → Option Words
after_keyword keyword clauses = do
  clause ← the keyword clauses
  start ← keyword_at keyword clause
  Some start.1

-- a number: whole, or a length, which is within the limit of numbers in millionths of a micron
unfoldable pub via_number_at : ViaNumbers → Words → Option (ℤ × Words)
via_number_at Units words = whole_at words
via_number_at Microns words = do
  length ← length_at words
  within ← when (is_within length.0)
  Some length

-- x y
unfoldable pub pair_at : ViaNumbers → Words → Option (PointModel × Words)
pair_at numbers words = do
  x ← via_number_at numbers words
  y ← via_number_at numbers x.1
  Some (record { x = x.0; y = y.0 }, y.1)

-- x y, neither of them below the least
unfoldable pub pair_from : ViaNumbers → ℤ → Words → Option (PointModel × Words)
pair_from numbers least words = do
  pair ← pair_at numbers words
  enough ← when (int_le least pair.0.x && int_le least pair.0.y)
  Some pair

-- KEYWORD x y, neither of them below the least
unfoldable pub pair_of : ViaNumbers → List ℕ → ℤ → List Words → Option PointModel
pair_of numbers keyword least clauses = do
  words ← after_keyword keyword clauses
  pair ← pair_from numbers least words
  end ← nothing_at pair.1
  Some pair.0

-- VIARULE word, of which the word says nothing
unfoldable pub rule_in : List Words → Option (Unit {0})
rule_in clauses = do
  words ← after_keyword (codes "VIARULE") clauses
  rule ← word_at words
  nothing_at rule.1

-- a layer with metal on which no wires run is one of cuts
abbrev pub is_cut : LibraryModel → ℕ → Bool
is_cut library number = has_metal library number && not (is_routing library number)

-- three layers
unfoldable pub three_layers_at : LibraryModel → Words → Option (ViaLayers × Words)
three_layers_at library words = do
  low ← layer_named_at library words
  cut ← layer_named_at library low.1
  high ← layer_named_at library cut.1
  Some (record { low = low.0; cut = cut.0; high = high.0 }, high.1)

-- LAYERS low cut high: wires run on the first and on the last
unfoldable pub via_layers_in : LibraryModel → List Words → Option ViaLayers
via_layers_in library clauses = do
  words ← after_keyword (codes "LAYERS") clauses
  layers ← three_layers_at library words
  end ← nothing_at layers.1
  kinds ← when (is_routing library layers.0.low && is_cut library layers.0.cut && is_routing library layers.0.high)
  Some layers.0

-- ENCLOSURE x y x y: how far the lower and the upper plate reach beyond the cuts
unfoldable pub via_reach_in : ViaNumbers → List Words → Option (PointModel × PointModel)
via_reach_in numbers clauses = do
  words ← after_keyword (codes "ENCLOSURE") clauses
  low ← pair_from numbers (pos 0) words
  high ← pair_from numbers (pos 0) low.1
  end ← nothing_at high.1
  Some (low.0, high.0)

abbrev pub no_shift : PointModel
no_shift = record { x = pos 0; y = pos 0 }

-- OFFSET x y x y: by how much the lower and the upper plate are moved
unfoldable pub via_offset_of : ViaNumbers → Option Words → Option (PointModel × PointModel)
via_offset_of numbers None = Some (no_shift, no_shift)
via_offset_of numbers (Some clause) = do
  start ← keyword_at (codes "OFFSET") clause
  low ← pair_at numbers start.1
  high ← pair_at numbers low.1
  end ← nothing_at high.1
  Some (low.0, high.0)

-- the same of the clauses, of which one at most says it
unfoldable pub via_offset_in : ViaNumbers → List Words → Option (PointModel × PointModel)
via_offset_in numbers clauses = do
  clause ← only (codes "OFFSET") clauses
  via_offset_of numbers clause

-- ORIGIN x y: where the middle of the array is
unfoldable pub via_origin_of : ViaNumbers → Option Words → Option PointModel
via_origin_of numbers None = Some no_shift
via_origin_of numbers (Some clause) = do
  start ← keyword_at (codes "ORIGIN") clause
  middle ← pair_at numbers start.1
  end ← nothing_at middle.1
  Some middle.0

-- the same of the clauses, of which one at most says it
unfoldable pub via_origin_in : ViaNumbers → List Words → Option PointModel
via_origin_in numbers clauses = do
  clause ← only (codes "ORIGIN") clauses
  via_origin_of numbers clause

-- a number of rows or of columns: from 1 to the limit
unfoldable pub line_count_at : Words → Option (ℕ × Words)
line_count_at words = do
  count ← whole_at words
  some ← when (int_le (pos 1) count.0 && nat_le (unsigned_abs count.0) CUT_LIMIT)
  Some (unsigned_abs count.0, count.1)

-- ROWCOL rows columns: one of each where it isn't written
unfoldable pub rows_columns_of : Option Words → Option (ℕ × ℕ)
rows_columns_of None = Some (1, 1)
rows_columns_of (Some clause) = do
  start ← keyword_at (codes "ROWCOL") clause
  rows ← line_count_at start.1
  columns ← line_count_at rows.1
  end ← nothing_at columns.1
  few ← when (nat_le (rows.0 * columns.0) CUT_LIMIT)
  Some (rows.0, columns.0)

-- the same of the clauses, of which one at most says it
unfoldable pub rows_columns_in : List Words → Option (ℕ × ℕ)
rows_columns_in clauses = do
  clause ← only (codes "ROWCOL") clauses
  rows_columns_of clause

-- the cuts on this layer: CUTSIZE width height, CUTSPACING between columns and rows, and what may be written besides
unfoldable pub cut_array_in : ViaNumbers → ℕ → List Words → Option CutArray
cut_array_in numbers layer clauses = do
  cut ← pair_of numbers (codes "CUTSIZE") (pos 1) clauses
  gap ← pair_of numbers (codes "CUTSPACING") (pos 0) clauses
  counts ← rows_columns_in clauses
  middle ← via_origin_in numbers clauses
  Some (record { layer = layer; middle = middle; cut = cut; gap = gap; rows = counts.0; columns = counts.1 })

-- the plates on these two layers
unfoldable pub plates_in : ViaNumbers → ℕ → ℕ → List Words → Option (Plate × Plate)
plates_in numbers low high clauses = do
  reach ← via_reach_in numbers clauses
  shift ← via_offset_in numbers clauses
  Some (record { layer = low; reach = reach.0; shift = shift.0 }, record { layer = high; reach = reach.1; shift = shift.1 })

-- what the clauses say of the plates and the cuts, which lie on these layers
unfoldable pub via_between : ViaNumbers → ViaLayers → List Words → Option GeneratedVia
via_between numbers layers clauses = do
  plates ← plates_in numbers layers.low layers.high clauses
  cuts ← cut_array_in numbers layers.cut clauses
  Some (record { low = plates.0; cuts = cuts; high = plates.1 })

-- the same of all clauses of a DEF's via
unfoldable pub generated_in : LibraryModel → List Words → Option GeneratedVia
generated_in library clauses = do
  rule ← rule_in clauses
  layers ← via_layers_in library clauses
  via_between Units layers clauses
