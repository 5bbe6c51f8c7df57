-- The forms of a LEF that are read past (LEF/DEF 5.8, "LEF Syntax"; lefdef's own rule).
use Rattle.std.specs.Prelude.{ℕ, ◌||◌, if◌then◌else◌, List, Option, Some, codes}
use Rattle.leg_lex.specs.Words.{Words, ◌>>=◌, is_at, next_at, keyword_at, name_at, end_at, end_of}
use Rattle.leg_lex.specs.Past.{past, past_extension}
use Rattle.leg_lex.specs.Statements.{statement_at}

-- VIARULE NAME .. END NAME is read past, and in the narrow profile NONDEFAULTRULE NAME .. END NAME
unfoldable pub past_named : Words → Option (Unit {0} × Words)
past_named words = do
  start ← next_at words
  name ← name_at start.1
  past (end_of name.0) name.1

-- UNITS .. END UNITS and the like are read past
unfoldable pub past_lef_section : List ℕ → Words → Option (Unit {0} × Words)
past_lef_section keyword words = do
  start ← keyword_at keyword words
  past (end_at keyword) start.1

-- any other form is a statement
unfoldable pub past_statement : Words → Option (Unit {0} × Words)
past_statement words = do
  statement ← statement_at words
  Some (tt, statement.1)

-- what is read past
unfoldable pub past_lef_form : Words → Option (Unit {0} × Words)
past_lef_form words =
    if is_at (codes "VIARULE") words || is_at (codes "NONDEFAULTRULE") words then past_named words
    else (if is_at (codes "UNITS") words then past_lef_section (codes "UNITS") words
    else (if is_at (codes "PROPERTYDEFINITIONS") words then past_lef_section (codes "PROPERTYDEFINITIONS") words
    else (if is_at (codes "SPACING") words then past_lef_section (codes "SPACING") words
    else (if is_at (codes "BEGINEXT") words then past_extension words
    else past_statement words))))
