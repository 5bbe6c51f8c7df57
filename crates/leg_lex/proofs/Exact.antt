-- The millionths of a length are exact: zeros after its decimals, and the zeros that it has beyond the
-- sixth, only move the point.
use Rattle.std.proofs.Common.{◌≡◌, ℕ, ◌+◌, ◌*◌, ◌^◌, zero, suc, Bool, true, ◌==◌, List, [], ◌∷◌, ◌++◌, length, take, drop, codes, length-drop, length-append, append_assoc, refl, sym, ap, ◌∙◌, arith}
use Rattle.std.specs.List.{list_all}
use Rattle.std.specs.Str.Parse.{digits_value_after, digits_value}
use Rattle.std.proofs.Math.Nat.{pow-succ'}
use Rattle.std.proofs.lemmas.Bool.{and_parts}
use Rattle.std.proofs.lemmas.Bool.Decides.{nat_tests}
use Rattle.std.proofs.lemmas.List.{take-append-drop}
use Rattle.std.proofs.lemmas.List.Folds.{list_all-append}
use Rattle.leg_lex.proofs.Decimals.{number_after-append}
use Rattle.leg_lex.specs.Number.{is_length, millionths_of, millionths_in, microns_part, decimals}

-- the digits are all the byte 48, a zero
abbrev are_zeros : List ℕ → Bool
are_zeros digits = list_all (λ b. b == 48) digits

shifted : (n k : ℕ) → (n * 10 + 0) * 10 ^ k ≡ n * 10 ^ suc k
shifted n k = rw (pow-succ' 10 k) (grind arith)

-- each zero makes a number ten times as large
zeros_shift : (n : ℕ) (zeros : List ℕ) → are_zeros zeros ≡ true → digits_value_after 10 n zeros ≡ n * 10 ^ length zeros
zeros_shift n [] are = omega arith
zeros_shift n (z ∷ zeros) are =
    let is : z ≡ 48 = grind (arith, nat_tests, (and_parts (z == 48) (are_zeros zeros) are).0) in
    rw is (zeros_shift (n * 10 + 0) zeros (and_parts (z == 48) (are_zeros zeros) are).1 ∙ shifted n (length zeros))

zeros_drop : (k : ℕ) (zeros : List ℕ) → are_zeros zeros ≡ true → are_zeros (drop k zeros) ≡ true
zeros_drop zero zeros are = are
zeros_drop (suc k) [] are = refl
zeros_drop (suc k) (z ∷ zeros) are = zeros_drop k zeros (and_parts (z == 48) _ are).1

-- what stands after k digits is zeros, also where zeros follow
zeros_beyond : (k : ℕ) (digits zeros : List ℕ) → are_zeros (drop k digits) ≡ true → are_zeros zeros ≡ true
    → are_zeros (drop k (digits ++ zeros)) ≡ true
zeros_beyond zero digits zeros are more = rw (list_all-append (λ b. b == 48) digits zeros, are) more
zeros_beyond (suc k) [] zeros are more = zeros_drop (suc k) zeros more
zeros_beyond (suc k) (d ∷ digits) zeros are more = zeros_beyond k digits zeros are more

exact : (before after : List ℕ) → are_zeros (drop 6 after) ≡ true
    → millionths_of before after * 10 ^ length after ≡ digits_value 10 (before ++ after) * 10 ^ 6
exact before after are =
    let zeros = codes "000000" in
    let six = take 6 (after ++ zeros) in
    let beyond = drop 6 (after ++ zeros) in
    let n = digits_value 10 (before ++ six) in
    let are_beyond : are_zeros beyond ≡ true = zeros_beyond 6 after zeros are refl in
    let long : length beyond ≡ length after = omega (arith, length-drop 6 (after ++ zeros), length-append after zeros) in
    let left : digits_value 10 (before ++ six ++ beyond) ≡ n * 10 ^ length after =
    number_after-append 0 (before ++ six) beyond ∙ zeros_shift n beyond are_beyond ∙ ap (λ k. n * 10 ^ k) long in
    let right : digits_value 10 (before ++ after ++ zeros) ≡ digits_value 10 (before ++ after) * 10 ^ 6 =
    number_after-append 0 (before ++ after) zeros ∙ zeros_shift (digits_value 10 (before ++ after)) zeros refl in
    let same : before ++ six ++ beyond ≡ before ++ after ++ zeros =
    append_assoc before six beyond ∙ ap (λ digits. before ++ digits) (take-append-drop 6 (after ++ zeros)) ∙ sym (append_assoc before after zeros) in
    sym left ∙ ap (digits_value 10) same ∙ right

pub millionths_exact : (word : List ℕ) → is_length word ≡ true
    → millionths_in word * 10 ^ length (decimals word) ≡ digits_value 10 (microns_part word ++ decimals word) * 10 ^ 6
millionths_exact word is = exact (microns_part word) (decimals word) (and_parts _ (are_zeros (drop 6 (decimals word))) is).1
