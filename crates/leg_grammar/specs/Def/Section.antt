-- Sections (LEF/DEF 5.8, "DEF Syntax"; that their number of entries isn't compared is lefdef's own rule).
use Rattle.std.specs.Prelude.{ℕ, List, Option, Some}
use Rattle.leg_lex.specs.Words.{Words, ◌>>=◌, keyword_at, mark_at, whole_at, end_at}
use Rattle.leg_lex.specs.Until.{until}
use Rattle.leg_lex.specs.Statements.{at_end}

-- KEYWORD number ; which begins a section (59 is the semicolon)
unfoldable pub section_start : List ℕ → Words → Option (Unit {0} × Words)
section_start keyword words = do
  start ← keyword_at keyword words
  count ← whole_at start.1
  mark_at 59 count.1

-- KEYWORD number ; entries END KEYWORD
unfoldable pub section_at : {S : Type 0} → List ℕ → (S → Words → Option (S × Words)) → S → Words → Option (S × Words)
section_at keyword entry made words = do
  start ← section_start keyword words
  entries ← until at_end entry made start.1
  end ← end_at keyword entries.1
  Some (entries.0, end.1)
