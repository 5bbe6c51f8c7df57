-- The decimals of a length: what six of them say, with zeros in place of those that are not there.
use Rattle.std.proofs.Common.{◌≡◌, ℕ, ◌+◌, ◌-◌, ◌*◌, min, true, List, [], ◌∷◌, ◌++◌, length, take, drop, replicate, codes, zero, suc, refl, sym, subst, ◌∙◌, ⊎_elim, arith}
use Rattle.std.specs.Char.{digit_value}
use Rattle.std.specs.Str.{all_ascii_digits}
use Rattle.std.specs.Str.Parse.{digits_value_after}
use Rattle.std.proofs.Math.Seq.{take-append-add}
use Rattle.std.proofs.lemmas.Bool.{cases_lt}
use Rattle.std.proofs.lemmas.List.{take_rest, take_all, take-append-le, take-replicate, append-nil, take_min, drop-replicate}
use Rattle.leg_lex.proofs.Digits.{number_after-capped}
use Rattle.leg_lex.specs.Number.{millionths_of}

zeros_digits : (n : ℕ) → all_ascii_digits (replicate n 48) ≡ true
zeros_digits zero = refl
zeros_digits (suc n) = zeros_digits n

drop_zeros : (kept : ℕ) → drop kept (codes "000000") ≡ replicate (6 - kept) 48
drop_zeros kept = drop-replicate {X = ℕ} kept 6 48

pub padding_digits : (zeros : List ℕ) (kept : ℕ) → zeros ≡ codes "000000" → all_ascii_digits (take (length zeros - kept) (drop kept zeros)) ≡ true
padding_digits zeros kept is = rw (take_rest, is) (rw (drop_zeros kept) (zeros_digits (6 - kept)))

pub number_after-append : (n : ℕ) (xs ys : List ℕ) → digits_value_after 10 n (xs ++ ys) ≡ digits_value_after 10 (digits_value_after 10 n xs) ys
number_after-append n [] ys = refl
number_after-append n (x ∷ xs) ys = number_after-append (n * 10 + digit_value x) xs ys

take-append : (n : ℕ) (xs ys : List ℕ) → take n (xs ++ ys) ≡ take n xs ++ take (n - length xs) ys
take-append n xs ys = ⊎_elim
    (λ below. let e : n - length xs ≡ 0 = omega arith in rw (e, take-append-le n xs ys (omega arith)) (sym (append-nil (take n xs))))
    (λ past. let e : n ≡ length xs + (n - length xs) = omega arith in
    subst (λ k. take k (xs ++ ys) ≡ take n xs ++ take (n - length xs) ys) (sym e) (rw (take_all n xs past) (take-append-add xs ys (n - length xs))))
    (cases_lt n (length xs))

-- zeros are there to stand for the decimals that are not
padded : (after : List ℕ) (kept : ℕ) → kept ≡ min (length after) 6 → take 6 (after ++ codes "000000") ≡ take kept after ++ drop kept (codes "000000")
padded after kept ks =
    let least : kept ≡ min 6 (length after) = omega arith in
    let same : take 6 after ≡ take kept after = rw least (sym (take_min 6 after)) in
    let e : 6 - length after ≡ 6 - kept = omega arith in
    take-append 6 after (codes "000000") ∙ rw (same, e, take-replicate {X = ℕ} (6 - kept) 6 48 (omega arith), drop_zeros kept) refl

-- digits after digits, in arithmetic that stays at the limit
joined : (limit n m : ℕ) (xs ys : List ℕ) → m ≡ min (digits_value_after 10 n xs) limit
    → min (digits_value_after 10 m ys) limit ≡ min (digits_value_after 10 n (xs ++ ys)) limit
joined limit n m xs ys is = rw (is, number_after-append) (number_after-capped limit (digits_value_after 10 n xs) ys)

pub millionths_is : (before after zeros : List ℕ) (limit kept a b : ℕ) → zeros ≡ codes "000000" → kept ≡ min (length after) 6
    → a ≡ min (digits_value_after 10 0 before) limit → b ≡ min (digits_value_after 10 a (take kept after)) limit
    → min (digits_value_after 10 b (take (length zeros - kept) (drop kept zeros))) limit
    ≡ min (millionths_of before after) limit
millionths_is before after zeros limit kept a b zs ks a_is b_is =
    rw (take_rest, zs) (joined limit a b (take kept after) (drop kept (codes "000000")) b_is
    ∙ rw (← padded after kept ks) (joined limit 0 a before (take 6 (after ++ codes "000000")) a_is))

pub ruleset decimals = (padding_digits, millionths_is)
