-- A statement is the words up to a semicolon (LEF/DEF 5.8, "Rules for LEF and DEF files"), and a block
-- is asked which statements it has.
use Rattle.std.specs.Prelude.{ℕ, Bool, if◌then◌else◌, List, [], ◌∷◌, ◌++◌, Option, None, Some, filter, codes}
use Rattle.std.specs.Str.{bytes_eq}
use Rattle.std.specs.List.{slice_split}
use Rattle.leg_lex.specs.Words.{Words, ◌>>=◌, is_at}
use Rattle.leg_lex.specs.Until.{until}

abbrev pub is_semicolon : List ℕ → Bool
is_semicolon word = bytes_eq word (codes ";")

-- the words up to the first that ends them, and those after it
unfoldable pub up_to : (List ℕ → Bool) → Words → Option (Words × Words)
up_to ends [] = None
up_to ends (word ∷ words) = if ends word then Some ([], words) else (do
  others ← up_to ends words
  Some (word ∷ others.0, others.1))

-- a statement's words, without the semicolon that ends it
unfoldable pub statement_at : Words → Option (Words × Words)
statement_at words = up_to is_semicolon words

-- one more statement
unfoldable pub one_statement : List Words → Words → Option (List Words × Words)
one_statement statements words = do
  next ← statement_at words
  Some (statements ++ next.0 ∷ [], next.1)

abbrev pub at_end : Words → Bool
at_end words = is_at (codes "END") words

-- the statements of a block, up to the word `END` in a statement's place
unfoldable pub statements_at : Words → Option (List Words × Words)
statements_at words = until at_end one_statement [] words

-- the statements that begin with this keyword
abbrev pub those : List ℕ → List Words → List Words
those keyword statements = filter (is_at keyword) statements

-- the one element, or none where there is none: no value where there are more
abbrev pub at_most_one : {X : Type 0} → List X → Option (Option X)
at_most_one [] = Some None
at_most_one (x ∷ []) = Some (Some x)
at_most_one (x ∷ y ∷ xs) = None

-- the statement of this keyword, which appears at most once
unfoldable pub only : List ℕ → List Words → Option (Option Words)
only keyword statements = at_most_one (those keyword statements)

-- the statement of this keyword, which appears exactly once
unfoldable pub the : List ℕ → List Words → Option Words
the keyword statements = do
  found ← only keyword statements
  found

-- The head of a statement and its clauses, each without the `+` that it begins with.
abbrev pub is_plus : List ℕ → Bool
is_plus word = bytes_eq word (codes "+")

abbrev pub clauses_of : Words → List Words
clauses_of statement = slice_split is_plus statement
