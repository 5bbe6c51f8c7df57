-- Clauses, each of which begins after a `+` (LEF/DEF 5.8, "DEF Syntax"; which are read past is lefdef's own rule).
use Rattle.std.specs.Prelude.{ℕ, Bool, false, if◌then◌else◌, List, [], ◌∷◌, Option, Some}
use Rattle.leg_lex.specs.Words.{Words, ◌>>=◌, is_at, is_word, keyword_at, whole_at}

-- a clause begins with a name or a quoted word
abbrev pub is_clause : Words → Bool
is_clause [] = false
is_clause (word ∷ words) = is_word word

-- KEYWORD number, if it is written
unfoldable pub past_number : List ℕ → Words → Option (Unit {0} × Words)
past_number keyword words =
    if is_at keyword words then (do
      start ← keyword_at keyword words
      number ← whole_at start.1
      Some (tt, number.1))
    else Some (tt, words)
