-- What is read past up to a keyword that may be missing: what a loop that looks for it needs.
use Rattle.std.proofs.Common.{◌≡◌, ℕ, suc, ◌+◌, ◌<◌, true, false, List, [], ◌∷◌, length, drop, refl, arith}
use Rattle.std.specs.List.{position_or_len, after_first}
use Rattle.leg_lex.specs.Words.{Words, is_at, is_keyword}

-- one word more, which isn't the keyword
pub skipped_on : (keyword : List ℕ) (words : Words) → (words ≡ [] → ⊥) → is_at keyword words ≡ false
    → after_first (is_keyword keyword) (drop 1 words) ≡ after_first (is_keyword keyword) words
skipped_on keyword [] some other = absurd (some refl)
skipped_on keyword (word ∷ words) some other =
    let place = position_or_len (is_keyword keyword) words in
    let more : (1 + place) + 1 ≡ suc (place + 1) = omega arith in
    rw (other, more) refl

-- the keyword
pub skipped_here : (keyword : List ℕ) (words : Words) → is_at keyword words ≡ true → drop 1 words ≡ after_first (is_keyword keyword) words
skipped_here keyword [] there = refl
skipped_here keyword (word ∷ words) there = rw there refl

-- no word is left
pub skipped_all : (keyword : List ℕ) (words : Words) → words ≡ [] → drop 1 words ≡ after_first (is_keyword keyword) words
skipped_all keyword words none = rw none refl

pub skip_shorter : (words : Words) → (words ≡ [] → ⊥) → length (drop 1 words) < length words
skip_shorter [] some = absurd (some refl)
skip_shorter (word ∷ words) some = omega arith
