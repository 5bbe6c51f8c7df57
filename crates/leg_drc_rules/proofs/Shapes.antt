-- The shape of a table, word by word.
use Rattle.std.proofs.Common.{◌≡◌, ℕ, zero, suc, ◌+◌, ◌-◌, ◌<◌, ◌≤◌, ◌==◌, true, false, [], ◌∷◌, length, drop, codes, refl, sym, arith}
use Rattle.std.proofs.lemmas.Bool.Decides.{nat_tests}
use Rattle.leg_lex.specs.Words.{Words, is_at}
use Rattle.leg_drc_rules.specs.Table.{rows_fit, runs_fit}

pub skip_shorter : (words : Words) → (words ≡ [] → ⊥) → length (drop 1 words) < length words
skip_shorter [] some = absurd (some refl)
skip_shorter (word ∷ words) some = omega arith

-- WIDTH, and then a row
pub row_begins : (row : ℕ) (words : Words) → (words ≡ [] → ⊥) → is_at (codes "WIDTH") words ≡ true → rows_fit row 0 words ≡ rows_fit row row (drop 1 words)
unfolding rows_fit
row_begins row [] some there = absurd (some refl)
row_begins row (word ∷ words) some there = rw there refl

-- no WIDTH where a row would begin
pub no_row_begins : (row : ℕ) (words : Words) → (words ≡ [] → ⊥) → is_at (codes "WIDTH") words ≡ false → rows_fit row 0 words ≡ false
unfolding rows_fit
no_row_begins row [] some other = absurd (some refl)
no_row_begins row (word ∷ words) some other = rw other refl

-- one more word of a row
pub row_goes_on : (row left : ℕ) (words : Words) → (words ≡ [] → ⊥) → (left ≡ 0 → ⊥) → is_at (codes "WIDTH") words ≡ false
    → rows_fit row left words ≡ rows_fit row (left - 1) (drop 1 words)
unfolding rows_fit
row_goes_on row left [] some more other = absurd (some refl)
row_goes_on row zero (word ∷ words) some more other = absurd (more refl)
row_goes_on row (suc left) (word ∷ words) some more other = let e : suc left - 1 ≡ left = omega arith in rw (other, e) refl

-- a row that is too short
pub row_ends_early : (row left : ℕ) (words : Words) → (words ≡ [] → ⊥) → (left ≡ 0 → ⊥) → is_at (codes "WIDTH") words ≡ true → rows_fit row left words ≡ false
unfolding rows_fit
row_ends_early row left [] some more there = absurd (some refl)
row_ends_early row zero (word ∷ words) some more there = absurd (more refl)
row_ends_early row (suc left) (word ∷ words) some more there = rw there refl

-- the last row
pub rows_end : (row left : ℕ) (words : Words) → words ≡ [] → rows_fit row left words ≡ (left == 0)
unfolding rows_fit
rows_end row zero words none = rw none refl
rows_end row (suc left) words none = let e : (suc left == 0) ≡ false = grind (arith, nat_tests) in rw (none, e) refl

counted_more : (runs : ℕ) (words : Words) → (words ≡ [] → ⊥) → is_at (codes "WIDTH") words ≡ false → runs_fit runs words ≡ runs_fit (suc runs) (drop 1 words)
unfolding runs_fit
counted_more runs [] some other = absurd (some refl)
counted_more runs (word ∷ words) some other = rw other refl

one_fewer : (all : ℕ) (words : Words) → (words ≡ [] → ⊥) → length words ≤ all → suc (all - length words) ≡ all - length (drop 1 words)
one_fewer all [] some less = absurd (some refl)
one_fewer all (word ∷ words) some less = omega arith

-- one more run
pub run_more : (all : ℕ) (words : Words) → (words ≡ [] → ⊥) → is_at (codes "WIDTH") words ≡ false → length words ≤ all
    → runs_fit (all - length (drop 1 words)) (drop 1 words) ≡ runs_fit (all - length words) words
run_more all words some other less =
    rw (← one_fewer all words some less) (sym (counted_more (all - length words) words some other))

-- none before the first word
pub first_run : (words : Words) → runs_fit (length words - length words) words ≡ runs_fit 0 words
first_run words = let e : length words - length words ≡ 0 = omega arith in rw e refl

-- no rows
pub runs_without_rows : (runs : ℕ) (words : Words) → words ≡ [] → runs_fit runs words ≡ false
unfolding runs_fit
runs_without_rows runs words none = rw none refl

rows_behind : (runs : ℕ) (words : Words) → (words ≡ [] → ⊥) → is_at (codes "WIDTH") words ≡ true → (runs ≡ 0 → ⊥)
    → runs_fit runs words ≡ rows_fit (suc runs) (suc runs) (drop 1 words)
unfolding runs_fit
rows_behind runs [] some there more = absurd (some refl)
rows_behind zero (word ∷ words) some there more = absurd (more refl)
rows_behind (suc runs) (word ∷ words) some there more = let e : (suc runs == 0) ≡ false = grind (arith, nat_tests) in rw (there, e) refl

-- no runs
pub no_runs : (runs : ℕ) (words : Words) → is_at (codes "WIDTH") words ≡ true → runs ≡ 0 → runs_fit runs words ≡ false
unfolding runs_fit
no_runs runs [] there none = refl
no_runs runs (word ∷ words) there none = rw (none, there) refl

-- the rows behind the runs
pub runs_end : (runs : ℕ) (words : Words) → (words ≡ [] → ⊥) → is_at (codes "WIDTH") words ≡ true → (runs ≡ 0 → ⊥)
    → runs_fit runs words ≡ rows_fit (runs + 1) (runs + 1) (drop 1 words)
runs_end runs words some there more = let e : runs + 1 ≡ suc runs = omega arith in rw e (rows_behind runs words some there more)
