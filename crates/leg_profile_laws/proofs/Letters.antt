-- A word that begins with a letter is no length.
use Rattle.std.proofs.Common.{◌≡◌, ℕ, ◌+◌, ◌≤◌, suc, nat_lt, Bool, true, false, ◌==◌, List, [], ◌∷◌, map, None, refl, arith}
use Rattle.std.proofs.lemmas.Bool.Decides.{nat_tests}
use Rattle.std.specs.Char.{to_ascii_lowercase, is_ascii_digit}
use Rattle.std.specs.List.{position_or_len}
use Rattle.leg_lex.specs.Words.{Words, length_at, next_at}
use Rattle.leg_lex.specs.Number.{is_point, is_length}

-- letters come behind the digits, the signs and the point
letter_from : (b c : ℕ) → to_ascii_lowercase b ≡ c → 97 ≤ c → 65 ≤ b
letter_from b c same letter = by (nat_lt b 65) refl where
  by : (small : Bool) → nat_lt b 65 ≡ small → 65 ≤ b
  by true is = let e : b ≡ c = rw is at same in absurd (grind (arith, nat_tests))
  by false is = grind (arith, nat_tests)

no_digit : (b : ℕ) → 65 ≤ b → is_ascii_digit b ≡ false
no_digit b letter = grind (arith, nat_tests)

no_length : (b : ℕ) (bytes : List ℕ) → 65 ≤ b → is_length (b ∷ bytes) ≡ false
no_length b bytes letter =
    let plus : (b == 43) ≡ false = grind (arith, nat_tests) in
    let minus : (b == 45) ≡ false = grind (arith, nat_tests) in
    let point : (b == 46) ≡ false = grind (arith, nat_tests) in
    let more : 1 + position_or_len is_point bytes ≡ suc (position_or_len is_point bytes) = omega arith in
    rw (plus, minus, point, more, no_digit b letter) refl

-- A word with such a first letter is no length.
pub letter_no_length : (c : ℕ) (word rest : List ℕ) (words : Words) → 97 ≤ c → map to_ascii_lowercase word ≡ c ∷ rest → length_at (word ∷ words) ≡ None
unfolding length_at next_at
letter_no_length c [] rest words letter same = absurd (let e : ⊥ = cc in e)
letter_no_length c (b ∷ bytes) rest words letter same =
    let first : to_ascii_lowercase b ≡ c = cc in
    let is = no_length b bytes (letter_from b c first letter) in
    rw is refl
