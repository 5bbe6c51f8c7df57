-- A table of spacings by width and parallel run length (LEF/DEF 5.8, "Layer (Routing)", on SPACINGTABLE).
use Rattle.std.specs.Prelude.{ℕ, zero, suc, ◌==◌, Bool, true, false, not, ◌&&◌, int_lt, if◌then◌else◌, List, [], ◌∷◌, ◌++◌, drop, map, Option, None, Some, codes, ℤ}
use Rattle.leg_lex.specs.Words.{Words, ◌>>=◌, is_keyword, keyword_at}
use Rattle.leg_lex.specs.Until.{until}
use Rattle.leg_drc_rules.specs.Amount.{amount_at}
use Rattle.leg_drc_rules.specs.Records.{RowModel, TableModel}

abbrev pub is_width : List ℕ → Bool
is_width word = is_keyword (codes "WIDTH") word

-- so many words that aren't WIDTH, and then again WIDTH and as many as a row has, up to the end
unfoldable pub rows_fit : ℕ → ℕ → Words → Bool
rows_fit row zero [] = true
rows_fit row (suc left) [] = false
rows_fit row zero (word ∷ words) = is_width word && rows_fit row row words
rows_fit row (suc left) (word ∷ words) = not (is_width word) && rows_fit row left words

-- at least one run, with those counted before, and behind WIDTH rows of a width and a value for each run
unfoldable pub runs_fit : ℕ → Words → Bool
runs_fit runs [] = false
runs_fit runs (word ∷ words) =
    if is_width word then not (runs == 0) && rows_fit (suc runs) (suc runs) words else runs_fit (suc runs) words

-- SPACINGTABLE PARALLELRUNLENGTH LEN .. WIDTH LEN LEN .. WIDTH LEN LEN ..
unfoldable pub table_form : Words → Option (Unit {0})
table_form statement = do
  start ← keyword_at (codes "SPACINGTABLE") statement
  sort ← keyword_at (codes "PARALLELRUNLENGTH") start.1
  if runs_fit 0 sort.1 then Some tt else None

-- one more number
unfoldable pub one_amount : List ℤ → Words → Option (List ℤ × Words)
one_amount amounts words = do
  amount ← amount_at words
  Some (amounts ++ amount.0 ∷ [], amount.1)

abbrev pub at_row_end : Words → Bool
at_row_end [] = true
at_row_end (word ∷ words) = is_width word

-- the numbers up to the next WIDTH, or to the end
unfoldable pub amounts_at : Words → Option (List ℤ × Words)
amounts_at words = until at_row_end one_amount [] words

-- WIDTH, a width and its values
unfoldable pub one_row : List RowModel → Words → Option (List RowModel × Words)
one_row rows words = do
  width ← amount_at (drop 1 words)
  values ← amounts_at width.1
  Some (rows ++ record { width = width.0; values = values.0 } ∷ [], values.1)

abbrev pub at_no_word : Words → Bool
at_no_word [] = true
at_no_word (word ∷ words) = false

-- each is above the one before it
abbrev pub rise : List ℤ → Bool
rise [] = true
rise (a ∷ []) = true
rise (a ∷ b ∷ others) = int_lt a b && rise (b ∷ others)

-- runs and rows are a table where the runs rise and the widths of the rows do
abbrev pub table_where_rise : TableModel → Option TableModel
table_where_rise table = if rise table.runs && rise (map (λ row. row.width) table.rows) then Some table else None

-- the table of a statement of this form, if it is one
unfoldable pub table_in : Words → Option (Option TableModel)
table_in statement = do
  runs ← amounts_at (drop 2 statement)
  rows ← until at_no_word one_row [] runs.1
  Some (table_where_rise (record { runs = runs.0; rows = rows.0 }))

-- the same of a statement that may be missing
abbrev pub table_of_any : Option Words → Option (Option TableModel)
table_of_any None = Some None
table_of_any (Some statement) = table_in statement
