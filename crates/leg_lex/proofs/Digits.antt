-- Digits and the numbers that they write, up to a limit.
use Rattle.std.proofs.Common.{◌≡◌, ℕ, ◌+◌, ◌-◌, ◌*◌, ◌≤◌, ◌<◌, min, true, false, ◌&&◌, List, [], ◌∷◌, length, drop, get_or, refl, ap, ◌∙◌, ⊎_elim, arith}
use Rattle.std.specs.Char.{is_ascii_digit, digit_value}
use Rattle.std.specs.List.{list_all}
use Rattle.std.specs.Str.{all_ascii_digits}
use Rattle.std.specs.Str.Parse.{digits_value_after}
use Rattle.std.proofs.lemmas.Bool.{cases_lt}
use Rattle.std.proofs.lemmas.Bool.Decides.{nat_tests}
use Rattle.std.proofs.lemmas.List.Recursion.{same_from_clauses}
use Rattle.std.proofs.lemmas.List.{drop_more, drop_all}

pub all_digits_is : (bytes : List ℕ) → all_ascii_digits bytes ≡ list_all is_ascii_digit bytes
all_digits_is = same_from_clauses all_ascii_digits (list_all is_ascii_digit) (λ b rest. is_ascii_digit b && rest) refl (λ _ _. refl) (λ _ _. refl)

-- digits after a number make no smaller one
pub number_after-ge : (n : ℕ) (digits : List ℕ) → n ≤ digits_value_after 10 n digits
number_after-ge n [] = omega arith
number_after-ge n (d ∷ digits) = omega (arith, number_after-ge (n * 10 + digit_value d) digits)

-- a number that was cut down to a limit stays at the limit
pub number_after-capped : (limit n : ℕ) (digits : List ℕ) → min (digits_value_after 10 (min n limit) digits) limit ≡ min (digits_value_after 10 n digits) limit
number_after-capped limit n digits = ⊎_elim
    (λ below. let e : min n limit ≡ n = omega arith in ap (λ k. min (digits_value_after 10 k digits) limit) e)
    (λ above. omega (arith, number_after-ge (min n limit) digits, number_after-ge n digits))
    (cases_lt n limit)

is_digit_value : (c : ℕ) → is_ascii_digit c ≡ true → (48 ≤ c) × (digit_value c ≡ c - 48)
is_digit_value c is = grind (arith, nat_tests)

-- what the digits say when one of them has gone by, in arithmetic that stays at the limit
step : (limit n c : ℕ) (digits : List ℕ) → is_ascii_digit c ≡ true
    → min (digits_value_after 10 (min (min (n * 10) limit + (c - 48)) limit) digits) limit
    ≡ min (digits_value_after 10 n (c ∷ digits)) limit
step limit n c digits are =
    let is = is_digit_value c are in
    let e : min (min (n * 10) limit + (c - 48)) limit ≡ min (n * 10 + digit_value c) limit = rw is.1 (omega arith) in
    ap (λ k. min (digits_value_after 10 k digits) limit) e ∙ number_after-capped limit (n * 10 + digit_value c) digits

-- behind a digit are digits if there were digits from it on
pub digits_go_on : (digits : List ℕ) (i : ℕ) → is_ascii_digit (get_or digits i 0) ≡ true → i < length digits
    → all_ascii_digits (drop (i + 1) digits) ≡ all_ascii_digits (drop i digits)
digits_go_on digits i is in_range = rw (drop_more digits i 0 in_range, is) refl

-- no digits begin with another byte
pub digits_stop : (digits : List ℕ) (i : ℕ) → is_ascii_digit (get_or digits i 0) ≡ false → i < length digits
    → all_ascii_digits (drop i digits) ≡ false
digits_stop digits i is in_range = rw (drop_more digits i 0 in_range, is) refl

-- where nothing is left, digits are left
pub digits_end : (digits : List ℕ) (i : ℕ) → length digits ≤ i → all_ascii_digits (drop i digits) ≡ true
digits_end digits i past = rw (drop_all i digits past) refl

-- one more digit, in arithmetic that stays at the limit
pub number_goes_on : (limit n m : ℕ) (digits : List ℕ) (i : ℕ) → m ≡ min (min (n * 10) limit + (get_or digits i 0 - 48)) limit
    → is_ascii_digit (get_or digits i 0) ≡ true → i < length digits
    → min (digits_value_after 10 m (drop (i + 1) digits)) limit ≡ min (digits_value_after 10 n (drop i digits)) limit
number_goes_on limit n m digits i is digit in_range =
    let e = drop_more digits i 0 in_range in
    rw (is, e) (step limit n (get_or digits i 0) (drop (i + 1) digits) digit)

-- no more digits
pub number_ends : (n : ℕ) (digits : List ℕ) (i : ℕ) → length digits ≤ i → digits_value_after 10 n (drop i digits) ≡ n
number_ends n digits i past = rw (drop_all i digits past)

pub ruleset digits = (digits_go_on, digits_stop, digits_end, number_goes_on, number_ends)
