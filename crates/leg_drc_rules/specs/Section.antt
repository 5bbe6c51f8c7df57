-- The section of a layer, and its statements (LEF/DEF 5.8, "Layer").
use Rattle.std.specs.Prelude.{ℕ, Bool, false, not, ◌&&◌, if◌then◌else◌, List, [], ◌∷◌, Option, None, Some, codes}
use Rattle.std.specs.Str.{bytes_eq}
use Rattle.std.specs.List.{before_first, after_first}
use Rattle.leg_lex.specs.Words.{Words, ◌>>=◌, is_keyword, keyword_at, name_at}
use Rattle.leg_lex.specs.Statements.{is_semicolon}

-- the words of a section, and the name of its layer
pub record SectionModel : Type 0 where
  pub name : List ℕ
  pub words : Words

abbrev pub is_end : List ℕ → Bool
is_end word = is_keyword (codes "END") word

abbrev pub at_semicolon : Words → Bool
at_semicolon [] = false
at_semicolon (word ∷ words) = is_semicolon word

-- LAYER NAME words END NAME, where no word is END. LAYER NAME ; begins none: it only names a layer.
unfoldable pub section_at : Words → Option (SectionModel × Words)
section_at words = do
  start ← keyword_at (codes "LAYER") words
  name ← name_at start.1
  end ← name_at (after_first is_end name.1)
  if not (at_semicolon name.1) && bytes_eq end.0 name.0
      then Some (record { name = name.0; words = before_first is_end name.1 }, end.1) else None

-- a word is the first of the statement that follows; where none follows it is in none
abbrev pub with_first : List ℕ → List Words → List Words
with_first word [] = []
with_first word (statement ∷ statements) = (word ∷ statement) ∷ statements

-- the statements among words: a semicolon ends each, and isn't one of its words
unfoldable pub statements_in : Words → List Words
statements_in [] = []
statements_in (word ∷ words) =
    if is_semicolon word then [] ∷ statements_in words else with_first word (statements_in words)
