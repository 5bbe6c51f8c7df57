-- Layers (LEF/DEF 5.8, "Layer (Cut)", "Layer (Routing)"; which width and which spacing are taken is lefdef's
-- own rule).
use Rattle.std.specs.Prelude.{ℕ, ℤ, pos, Bool, true, false, ◌&&◌, int_lt, if◌then◌else◌, List, [], ◌∷◌, ◌++◌, Option, None, Some, is_none, unwrap_or, codes}
use Rattle.std.specs.List.{find, after_first}
use Rattle.leg_lex.specs.Words.{Words, ◌>>=◌, is_keyword, is_at, next_at, keyword_at, name_at, word_at, length_at, end_of, nothing_at}
use Rattle.leg_lex.specs.Statements.{statements_at, only, the}
use Rattle.leg_lex.specs.NameLookup.{place_of}
use Rattle.leg_lib_records.specs.declared.records.Direction.{Direction}
use Rattle.leg_lib_records.specs.declared.records.Direction.TheVariants.{Horizontal, Vertical}
use Rattle.leg_lib_records.specs.declared.raw.RawKind.{RawKind}
use Rattle.leg_lib_records.specs.declared.raw.RawKind.TheVariants.{Routing, Cut, Other}
use Rattle.leg_lib_records.specs.declared.raw.RawLayer.{RawLayer}
use Rattle.leg_lib_records.specs.Records.{RawLibraryModel, raw_layer_names}

-- TYPE word
unfoldable pub type_in : Words → Option (List ℕ)
type_in statement = do
  start ← keyword_at (codes "TYPE") statement
  word ← word_at start.1
  end ← nothing_at word.1
  Some word.0

abbrev pub direction_of : List ℕ → Option Direction
direction_of word =
    if is_keyword (codes "HORIZONTAL") word then Some Horizontal
    else (if is_keyword (codes "VERTICAL") word then Some Vertical else None)

-- DIRECTION HORIZONTAL or DIRECTION VERTICAL
unfoldable pub direction_in : Words → Option Direction
direction_in statement = do
  start ← keyword_at (codes "DIRECTION") statement
  word ← next_at start.1
  end ← nothing_at word.1
  direction_of word.0

abbrev pub direction_of_any : Option Words → Option (Option Direction)
direction_of_any None = Some None
direction_of_any (Some statement) = direction_in statement >>= λ direction. Some (Some direction)

-- a keyword with exactly one word after it
abbrev pub has_one_word : Words → Bool
has_one_word (keyword ∷ word ∷ []) = true
has_one_word statement = false

-- the first statement of this keyword with exactly one word after it
abbrev pub first_of_one_word : List ℕ → List Words → Option Words
first_of_one_word keyword statements = find (λ s. is_at keyword s && has_one_word s) statements

-- the length that such a statement denotes
unfoldable pub length_in : Words → Option ℤ
length_in statement = do
  start ← next_at statement
  length ← length_at start.1
  Some length.0

-- WIDTH LEN: above 0
unfoldable pub width_in : Words → Option ℤ
width_in statement = do
  width ← length_in statement
  if int_lt (pos 0) width then Some width else None

abbrev pub width_of_any : Option Words → Option (Option ℤ)
width_of_any None = Some None
width_of_any (Some statement) = width_in statement >>= λ width. Some (Some width)

-- a layer of TYPE ROUTING has a direction and a width
abbrev pub routing : Option Direction → Option ℤ → Option RawKind
routing (Some direction) (Some width) = Some (Routing direction width)
routing direction width = None

abbrev pub layer_kind : List ℕ → Option Direction → Option ℤ → Option RawKind
layer_kind type direction width =
    if is_keyword (codes "ROUTING") type then routing direction width
    else Some (if is_keyword (codes "CUT") type then Cut else Other)

-- the one TYPE, at most one DIRECTION, and the first WIDTH of one number
unfoldable pub kind_in : List Words → Option RawKind
kind_in statements = do
  statement ← the (codes "TYPE") statements
  type ← type_in statement
  found ← only (codes "DIRECTION") statements
  direction ← direction_of_any found
  width ← width_of_any (first_of_one_word (codes "WIDTH") statements)
  layer_kind type direction width

-- SPACING LEN: at least 0
unfoldable pub spacing_in : Words → Option ℤ
spacing_in statement = do
  spacing ← length_in statement
  if int_lt spacing (pos 0) then None else Some spacing

abbrev pub spacing_of_any : Option Words → Option (Option ℤ)
spacing_of_any None = Some None
spacing_of_any (Some statement) = spacing_in statement >>= λ spacing. Some (Some spacing)

-- SPACINGTABLE PARALLELRUNLENGTH
abbrev pub is_table : Words → Bool
is_table [] = false
is_table (word ∷ words) = is_keyword (codes "SPACINGTABLE") word && is_at (codes "PARALLELRUNLENGTH") words

-- where a row of a table ends: at the next WIDTH, or with the statement
abbrev pub at_row_end : Words → Bool
at_row_end [] = true
at_row_end (word ∷ words) = is_keyword (codes "WIDTH") word

-- a row's second number, at least 0, which is the spacing of the shortest run; none in a shorter row
unfoldable pub second_in_row : Words → Option (Option ℤ)
second_in_row row = if at_row_end row then Some None else (do
  width ← length_at row
  if at_row_end width.1 then Some None else (do
    spacing ← length_at width.1
    if int_lt spacing.0 (pos 0) then None else Some (Some spacing.0)))

-- the value of a table: that of the row of its first WIDTH
unfoldable pub table_value : Words → Option (Option ℤ)
table_value statement = second_in_row (after_first (is_keyword (codes "WIDTH")) statement)

abbrev pub table_value_of_any : Option Words → Option (Option ℤ)
table_value_of_any None = Some None
table_value_of_any (Some statement) = table_value statement

-- The first SPACING of one number; without one the value of the first table by parallel run length;
-- without that, 0.
unfoldable pub spacing_of : List Words → Option ℤ
spacing_of statements = do
  written ← spacing_of_any (first_of_one_word (codes "SPACING") statements)
  tabled ← table_value_of_any (find is_table statements)
  Some (unwrap_or written (unwrap_or tabled (pos 0)))

-- LAYER NAME statements END NAME
unfoldable pub layer_at : Words → Option (RawLayer × Words)
layer_at words = do
  start ← keyword_at (codes "LAYER") words
  name ← name_at start.1
  body ← statements_at name.1
  kind ← kind_in body.0
  spacing ← spacing_of body.0
  end ← end_of name.0 body.1
  Some (record { name = name.0; kind = kind; spacing = spacing }, end.1)

-- a layer's name is new
unfoldable pub with_layer : RawLibraryModel → Words → Option (RawLibraryModel × Words)
with_layer library words = do
  layer ← layer_at words
  if is_none (place_of layer.0.name (raw_layer_names library))
      then Some (record library { layers = library.layers ++ layer.0 ∷ [] }, layer.1) else None
