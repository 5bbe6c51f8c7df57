-- The numbers and rows of a table: each takes a word, and what their loops keep.
use Rattle.std.proofs.Common.{◌≡◌, ℕ, suc, ◌<◌, ◌≤◌, true, false, List, [], ◌∷◌, ◌++◌, length, drop, None, Some, ℤ, pos, codes, refl, arith}
use Rattle.std.specs.Prelude.{int_lt, Result, Ok, Err}
use Rattle.leg_lex.specs.Number.{micron_of}
use Rattle.leg_lex.specs.Words.{Words, is_at, said_number, length_at}
use Rattle.leg_lex.specs.Until.{until}
use Rattle.leg_lex.proofs.Until as loops
use Rattle.leg_lex.proofs.Until.{Below, Shortens, below_none, below_some, below_bind, below_if, until_below}
use Rattle.leg_lex.proofs.Shorter.{next_below}
use Rattle.leg_drc_rules.specs.Amount.{amount_at}
use Rattle.leg_drc_rules.specs.Records.{RowModel}
use Rattle.leg_drc_rules.specs.Table.{one_amount, at_row_end, amounts_at, one_row, at_no_word}

said_number_below : {E : Type 0} {n : ℕ} (number : Result ℤ E) (words : Words) → length words < n → Below n (said_number number words)
said_number_below (Ok z) words less = below_some z words less
said_number_below {n = n} (Err fault) words less = below_none n

length_below : (words : Words) → Below (length words) (length_at words)
unfolding length_at
length_below words =
    below_bind (omega arith) (next_below words) (λ next less. said_number_below (micron_of next.0) next.1 less)

pub amount_below : (words : Words) → Below (length words) (amount_at words)
unfolding amount_at
amount_below words =
    below_bind (omega arith) (length_below words) (λ number less.
    below_if (int_lt number.0 (pos 0)) (below_none (length words)) (below_some number.0 number.1 less))

pub amount_shorter : (words : Words) (amount : ℤ) (rest : Words) → amount_at words ≡ Some (amount, rest) → length rest < length words
amount_shorter words amount rest said = (amount_below words).left amount rest said

one_amount_shortens : Shortens one_amount
unfolding one_amount
one_amount_shortens amounts words =
    below_bind (omega arith) (amount_below words) (λ amount less. below_some (amounts ++ amount.0 ∷ []) amount.1 less)

-- one more number
pub amounts_on : (made : List ℤ) (words rest : Words) (amount : ℤ) → (words ≡ [] → ⊥) → is_at (codes "WIDTH") words ≡ false → amount_at words ≡ Some
    (amount, rest)
    → until at_row_end one_amount made words ≡ until at_row_end one_amount (made ++ amount ∷ []) rest
unfolding one_amount
amounts_on made [] rest amount some other said = absurd (some refl)
amounts_on made (word ∷ words) rest amount some other said =
    loops.goes_on at_row_end one_amount one_amount_shortens made (made ++ amount ∷ []) (word ∷ words) rest other (rw said refl)

-- no words are left
pub amounts_end : (made : List ℤ) (words : Words) → words ≡ [] → until at_row_end one_amount made words ≡ Some (made, words)
amounts_end made words none = loops.ends at_row_end one_amount made words (rw none refl)

-- a row ends
pub amounts_stop : (made : List ℤ) (words : Words) → is_at (codes "WIDTH") words ≡ true → until at_row_end one_amount made words ≡ Some (made, words)
amounts_stop made [] there = loops.ends at_row_end one_amount made [] refl
amounts_stop made (word ∷ words) there = loops.ends at_row_end one_amount made (word ∷ words) there

-- a word is no number
pub amounts_fail : (made : List ℤ) (words : Words) → (words ≡ [] → ⊥) → is_at (codes "WIDTH") words ≡ false → amount_at words ≡ None
    → until at_row_end one_amount made words ≡ None
unfolding one_amount
amounts_fail made [] some other said = absurd (some refl)
amounts_fail made (word ∷ words) some other said = loops.fails at_row_end one_amount made (word ∷ words) other (rw said refl)

amounts_below : (words : Words) → Below (suc (length words)) (amounts_at words)
unfolding amounts_at
amounts_below words = until_below at_row_end one_amount one_amount_shortens [] words

drop_less : (words : Words) → length (drop 1 words) ≤ length words
drop_less [] = omega arith
drop_less (word ∷ words) = omega arith

row_shortens : Shortens one_row
unfolding one_row
row_shortens rows words =
    below_bind (drop_less words) (amount_below (drop 1 words)) (λ width less.
    below_bind (omega arith) (amounts_below width.1) (λ values fewer.
    below_some (rows ++ record { width = width.0; values = values.0 } ∷ []) values.1 fewer))

pub row_shorter : (rows made : List RowModel) (words rest : Words) → one_row rows words ≡ Some (made, rest) → length rest < length words
row_shorter rows made words rest said = (row_shortens rows words).left made rest said

-- one more row
pub rows_on : (made next : List RowModel) (words rest : Words) → (words ≡ [] → ⊥) → one_row made words ≡ Some (next, rest)
    → until at_no_word one_row made words ≡ until at_no_word one_row next rest
rows_on made next [] rest some said = absurd (some refl)
rows_on made next (word ∷ words) rest some said = loops.goes_on at_no_word one_row row_shortens made next (word ∷ words) rest refl said

pub rows_end : (made : List RowModel) (words : Words) → words ≡ [] → until at_no_word one_row made words ≡ Some (made, words)
rows_end made words none = loops.ends at_no_word one_row made words (rw none refl)

pub rows_fail : (made : List RowModel) (words : Words) → (words ≡ [] → ⊥) → one_row made words ≡ None → until at_no_word one_row made words ≡ None
rows_fail made [] some said = absurd (some refl)
rows_fail made (word ∷ words) some said = loops.fails at_no_word one_row made (word ∷ words) refl said
