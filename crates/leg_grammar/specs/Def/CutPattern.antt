-- The pattern of a generated via, which says which cuts of its array there are (LEF/DEF 5.8, "Vias", PATTERN; that nothing stands 0 times, and how
-- many rows may be told at once, are lefdef's own rules).
use Rattle.std.specs.Prelude.{ℕ, Bool, true, false, ◌&&◌, ◌==◌, ◌+◌, ◌-◌, ◌*◌, ◌/◌, ◌%◌, nat_lt, nat_le, if◌then◌else◌, List, [], ◌∷◌, ◌++◌, length, Option, None, Some, is_none, codes}
use Rattle.std.specs.List.{slice_split}
use Rattle.leg_lex.specs.Words.{Words, ◌>>=◌, keyword_at, name_at, nothing_at}
use Rattle.leg_lex.specs.Until.{over}
use Rattle.leg_lex.specs.Statements.{only}
use Rattle.leg_grammar.specs.declared.generated_via.TheConstants.{CUT_LIMIT}
use Rattle.leg_grammar.specs.declared.cut_pattern.NextDigit.{NextDigit}
use Rattle.leg_grammar.specs.declared.cut_pattern.NextDigit.TheVariants.{Once, Count, Times}
use Rattle.leg_grammar.specs.declared.cut_pattern.DigitRun.{DigitRun}
use Rattle.leg_grammar.specs.Def.Guard.{when}

-- the value of a hexadecimal digit: 0 to 9 (48 to 57), A to F (65 to 70) and a to f (97 to 102)
abbrev pub hex_digit : ℕ → Option ℕ
hex_digit b =
    if nat_le 48 b && nat_le b 57 then Some (b - 48)
    else (if nat_le 65 b && nat_le b 70 then Some (b - 55)
    else (if nat_le 97 b && nat_le b 102 then Some (b - 87) else None))

-- a hexadecimal number with one more digit, up to the limit of rows
unfoldable pub more_rows : ℕ → ℕ → Option ℕ
more_rows number b = do
  digit ← hex_digit b
  few ← when (nat_le (number * 16 + digit) CUT_LIMIT)
  Some (number * 16 + digit)

-- how many rows the same digits are for: a hexadecimal number, from 1 on
unfoldable pub row_count_of : List ℕ → Option ℕ
row_count_of bytes = do
  count ← over more_rows 0 bytes
  some ← when (nat_le 1 count)
  Some count

-- the digits of a row so far, and what comes next: a digit that stands once, how often one stands, or a digit that stands so many times
pub record RowDigits : Type 0 where
  pub runs : List DigitRun
  pub next : NextDigit

-- one more digit, which stands so many times
unfoldable pub one_digit : RowDigits → ℕ → ℕ → Option RowDigits
one_digit row times b = do
  digit ← hex_digit b
  Some (record { runs = row.runs ++ record { times = times; digit = digit } ∷ []; next = Once })

-- how often the digit behind R stands: from 1 on
unfoldable pub times_of : ℕ → Option ℕ
times_of b = do
  times ← hex_digit b
  some ← when (nat_le 1 times)
  Some times

-- one more byte of a row: R (82) and the number of times come before a digit that stands more than once
unfoldable pub byte_for : RowDigits → NextDigit → ℕ → Option RowDigits
byte_for row Once b = if b == 82 then Some (record row { next = Count }) else one_digit row 1 b
byte_for row Count b = do
  times ← times_of b
  Some (record row { next = Times times })
byte_for row (Times times) b = one_digit row times b

abbrev pub one_byte : RowDigits → ℕ → Option RowDigits
one_byte row b = byte_for row row.next b

-- a row ends behind a digit
abbrev pub is_whole_row : NextDigit → Bool
is_whole_row Once = true
is_whole_row next = false

-- the digits of a row, from left to right: one at least
unfoldable pub row_digits_of : List ℕ → Option (List DigitRun)
row_digits_of bytes = do
  some ← when (nat_le 1 (length bytes))
  row ← over one_byte (record { runs = []; next = Once }) bytes
  end ← when (is_whole_row row.next)
  Some row.runs

-- so many rows that have the same digits
pub record PatternRows : Type 0 where
  pub count : ℕ
  pub digits : List DigitRun

-- the rows so far, from the bottom up, and how many come next, where that was read
pub record PatternParts : Type 0 where
  pub rows : List PatternRows
  pub count : Option ℕ

-- one more part of a pattern: how many rows, or the digits of so many
unfoldable pub count_or_digits : PatternParts → Option ℕ → List ℕ → Option PatternParts
count_or_digits made None part = do
  count ← row_count_of part
  Some (record made { count = Some count })
count_or_digits made (Some count) part = do
  digits ← row_digits_of part
  Some (record { rows = made.rows ++ record { count = count; digits = digits } ∷ []; count = None })

abbrev pub one_part : PatternParts → List ℕ → Option PatternParts
one_part made part = count_or_digits made made.count part

-- the parts are those between underscores (95)
abbrev pub pattern_parts : List ℕ → List (List ℕ)
pattern_parts word = slice_split (λ b. b == 95) word

-- the rows of a pattern, from the bottom up
unfoldable pub pattern_of : List ℕ → Option (List PatternRows)
pattern_of word = do
  made ← over one_part (record { rows = []; count = None }) (pattern_parts word)
  whole ← when (is_none made.count)
  Some made.rows

-- PATTERN word: without it each cut is there
unfoldable pub pattern_of_any : Option Words → Option (Option (List PatternRows))
pattern_of_any None = Some None
pattern_of_any (Some clause) = do
  start ← keyword_at (codes "PATTERN") clause
  word ← name_at start.1
  end ← nothing_at word.1
  rows ← pattern_of word.0
  Some (Some rows)

-- the same of the clauses, of which one at most says it
unfoldable pub pattern_in : List Words → Option (Option (List PatternRows))
pattern_in clauses = do
  clause ← only (codes "PATTERN") clauses
  pattern_of_any clause

-- the digits of the row of this number: none behind the last
unfoldable pub digits_of_row : List PatternRows → ℕ → List DigitRun
digits_of_row [] row = []
digits_of_row (rows ∷ more) row = if nat_lt row rows.count then rows.digits else digits_of_row more (row - rows.count)

-- the digit at this place: 0 behind the last
unfoldable pub digit_at : List DigitRun → ℕ → ℕ
digit_at [] place = 0
digit_at (run ∷ runs) place = if nat_lt place run.times then run.digit else digit_at runs (place - run.times)

-- a digit tells four columns from left to right, of which its highest bit is the first
abbrev pub has_bit : ℕ → ℕ → Bool
has_bit digit column =
    if column == 0 then nat_le 8 digit
    else (if column == 1 then nat_le 4 (digit % 8)
    else (if column == 2 then nat_le 2 (digit % 4) else digit % 2 == 1))

-- a cut is there in this row and this column
abbrev pub has_cut : Option (List PatternRows) → ℕ → ℕ → Bool
has_cut None row column = true
has_cut (Some rows) row column = has_bit (digit_at (digits_of_row rows row) (column / 4)) (column % 4)
