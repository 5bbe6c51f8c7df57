-- Which words are printable.
use Rattle.std.proofs.Common.{◌≡◌, ℕ, Bool, true, false, not, ◌&&◌, ◌||◌, List, ◌++◌, refl}
use Rattle.std.specs.List.{list_all}
use Rattle.std.proofs.lemmas.Bool.{false≢true, or_right}
use Rattle.std.proofs.lemmas.List.Folds.{list_all-append}
use Rattle.leg_lex.specs.Words.{Words, is_name, is_plain, is_mark, is_closed, is_word}
use Rattle.leg_output.specs.Words.{stays_one, is_printable}

both_true : (a b c d : Bool) → (a && b) ≡ true → c ≡ true → ((a && c) || d) ≡ true
both_true true b c d name stays = rw stays refl
both_true false b c d name stays = absurd (false≢true name)

-- a name that doesn't end with a semicolon
pub printable_name : (word : List ℕ) → is_name word ≡ true → stays_one word ≡ true → is_printable word ≡ true
printable_name word name stays = both_true (is_plain word) (not (is_mark word)) (stays_one word) (is_closed word) name stays

-- a quoted word
pub printable_quoted : (word : List ℕ) → is_closed word ≡ true → is_printable word ≡ true
printable_quoted word closed = or_right (is_plain word && stays_one word) (is_closed word) closed

-- a kept word
pub printable_word : (word : List ℕ) → is_word word ≡ true → stays_one word ≡ true → is_printable word ≡ true
printable_word word is stays = by (is_name word) (is_closed word) refl refl where
  by : (name closed : Bool) → is_name word ≡ name → is_closed word ≡ closed → is_printable word ≡ true
  by true closed one other = printable_name word one stays
  by false true one other = printable_quoted word other
  by false false one other = absurd (false≢true (rw (one, other) at is))

-- words of a run and of the next
pub printable_append : (v w : Words) → list_all is_printable v ≡ true → list_all is_printable w ≡ true → list_all is_printable (v ++ w) ≡ true
printable_append v w first next = rw (list_all-append is_printable v w, first, next) refl
