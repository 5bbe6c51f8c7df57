-- An odd number of elements pass a test.
use Rattle.std.proofs.Common.{◌≡◌, ℕ, ◌+◌, ◌%◌, Bool, true, false, not, cond, List, [], ◌∷◌, All, count_by, refl, sym, ap, ◌∙◌, arith}
use Rattle.std.specs.Prelude.{◌==◌}
use Rattle.std.specs.List.Sorted.{IsPermutation}
use Rattle.std.proofs.lemmas.Bool.Decides.{nat_tests}
use Rattle.std.proofs.lemmas.List.Elements.{All-head, All-tail}
use Rattle.std.proofs.lemmas.List.Sums.{sum_by-cons}
use Rattle.std.proofs.lemmas.List.Sorted.{sum_by-IsPermutation}
use Rattle.leg_polygon.specs.Inside.{is_odd, differ}

-- exactly one of two: in the other order, of three, and of what is the same
pub differ_swap : (a b c : Bool) → differ a (differ b c) ≡ differ b (differ a c)
differ_swap true true true = refl
differ_swap true true false = refl
differ_swap true false true = refl
differ_swap true false false = refl
differ_swap false true true = refl
differ_swap false true false = refl
differ_swap false false true = refl
differ_swap false false false = refl

pub differ_ordered : (a b c : Bool) → differ b (differ a c) ≡ differ (differ a b) c
differ_ordered true true true = refl
differ_ordered true true false = refl
differ_ordered true false true = refl
differ_ordered true false false = refl
differ_ordered false b c = refl

pub differ_chain : (a b c : Bool) → differ (differ a b) (differ b c) ≡ differ a c
differ_chain true true true = refl
differ_chain true true false = refl
differ_chain true false true = refl
differ_chain true false false = refl
differ_chain false true true = refl
differ_chain false true false = refl
differ_chain false false true = refl
differ_chain false false false = refl

pub differ_twice : (a c : Bool) → differ a (differ a c) ≡ c
differ_twice true true = refl
differ_twice true false = refl
differ_twice false c = refl

pub differ_same : (a : Bool) → differ a a ≡ false
differ_same true = refl
differ_same false = refl

pub differ_none : (a : Bool) → differ a false ≡ a
differ_none true = refl
differ_none false = refl

odd_more : (n : ℕ) → ((1 + n) % 2 == 1) ≡ not (n % 2 == 1)
odd_more n = grind (arith, nat_tests)

odd_same : (n : ℕ) → ((0 + n) % 2 == 1) ≡ (n % 2 == 1)
odd_same n = ap (λ m. m % 2 == 1) (omega arith)

one_more : (b : Bool) (n : ℕ) → ((cond b 1 0 + n) % 2 == 1) ≡ differ b (n % 2 == 1)
one_more true n = odd_more n
one_more false n = odd_same n

module _ {X : Type 0} (test : X → Bool) where
  pub is_odd-nil : is_odd test [] ≡ false
  unfolding is_odd
  is_odd-nil = refl

  pub is_odd-cons : (x : X) (xs : List X) → is_odd test (x ∷ xs) ≡ differ (test x) (is_odd test xs)
  unfolding is_odd
  is_odd-cons x xs = ap (λ n. n % 2 == 1) (sum_by-cons (λ z. cond (test z) 1 0) x xs) ∙ one_more (test x) (count_by test xs)

  pub is_odd-permutation : (xs ys : List X) → IsPermutation xs ys → is_odd test ys ≡ is_odd test xs
  unfolding is_odd
  is_odd-permutation xs ys moved = ap (λ n. n % 2 == 1) (sum_by-IsPermutation (λ z. cond (test z) 1 0) xs ys moved)

  -- an odd number only where some element passes
  pub is_odd-none : (xs : List X) → All (λ x. test x ≡ false) xs → is_odd test xs ≡ false
  is_odd-none [] none = is_odd-nil
  is_odd-none (x ∷ xs) none =
      is_odd-cons x xs
      ∙ ap (λ b. differ b (is_odd test xs)) (All-head (λ y. test y ≡ false) x xs none)
      ∙ is_odd-none xs (All-tail (λ y. test y ≡ false) x xs none)

-- tests that agree at each element
pub is_odd-agree : {X : Type 0} (test other : X → Bool) (xs : List X) → All (λ x. test x ≡ other x) xs → is_odd test xs ≡ is_odd other xs
is_odd-agree test other [] agree = is_odd-nil test ∙ sym (is_odd-nil other)
is_odd-agree test other (x ∷ xs) agree =
    is_odd-cons test x xs
    ∙ ap (λ b. differ b (is_odd test xs)) (All-head (λ y. test y ≡ other y) x xs agree)
    ∙ ap (differ (other x)) (is_odd-agree test other xs (All-tail (λ y. test y ≡ other y) x xs agree))
    ∙ sym (is_odd-cons other x xs)
