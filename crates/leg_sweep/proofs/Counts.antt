-- Counts of pairs of a list, which do not hang on the list's order where the test is symmetric.
use Rattle.std.proofs.Common.{◌≡◌, ℕ, ◌+◌, ◌*◌, ◌≤◌, Bool, true, cond, List, [], ◌∷◌, ◌++◌, length, map, sum_by, count_by, Contains, IsPermutation, inl, inr, refl, ap, arith}
use Rattle.std.proofs.lemmas.Bool.{cases_Bool}
use Rattle.std.proofs.lemmas.List.Sums.{count_by-le-length, sum_by-cons, sum_by_push, sum_by-le-sum_by}
use Rattle.std.proofs.lemmas.List.Sorted.{sum_by-IsPermutation}
use Rattle.leg_lemmas.proofs.Contents.{Contains-here, Contains-there}
use Rattle.leg_sweep.specs.Counts.{count_pairs}
use Rattle.leg_sweep.proofs.GridSums.{sum_by-map}

-- sums of equal terms are equal
sum_by_same : {X : Type 0} (f g : X → ℕ) → ((x : X) → f x ≡ g x) → (xs : List X) → sum_by f xs ≡ sum_by g xs
sum_by_same f g same xs =
    let up = sum_by-le-sum_by f g xs (λ x. omega (arith, same x)) in
    let down = sum_by-le-sum_by g f xs (λ x. omega (arith, same x)) in
    omega (arith, up, down)

-- the pairs of images
pub count_pairs-map : {X Y : Type 0} (test : X → X → Bool) (f : Y → X) (ys : List Y) → count_pairs test (map f ys) ≡ count_pairs (λ a b. test (f a) (f b)) ys
count_pairs-map test f [] = refl
count_pairs-map test f (y ∷ ys) =
    let first : count_by (test (f y)) (map f ys) ≡ count_by (λ z. test (f y) (f z)) ys = sum_by-map (λ x. cond (test (f y) x) 1 0) f ys in
    omega (arith, count_pairs-map test f ys, first)

module _ {X : Type 0} (test : X → X → Bool) where
  -- one more element makes a pair with each one before it
  pub count_pairs_push : (xs : List X) (y : X) → count_pairs test (xs ++ y ∷ []) ≡ count_pairs test xs + count_by (λ x. test x y) xs
  count_pairs_push [] y = refl
  count_pairs_push (x ∷ xs) y =
      omega (arith, count_pairs_push xs y, sum_by_push (λ z. cond (test x z) 1 0) xs y, sum_by-cons (λ z. cond (test z y) 1 0) x xs)

module _ {X : Type 0} (test : X → X → Bool) (symmetric : (a b : X) → test a b ≡ test b a) where
  -- one more element in the inner list of two
  inner_more : (x : X) (ys xs : List X) → sum_by (λ a. count_by (test a) (x ∷ ys)) xs ≡ count_by (test x) xs + sum_by (λ a. count_by (test a) ys) xs
  inner_more x ys [] = refl
  inner_more x ys (a ∷ xs) =
      let turned : ◌≡◌ {A = ℕ} (cond (test a x) 1 0) (cond (test x a) 1 0) = ap (λ b. cond b 1 0) (symmetric a x) in
      omega (
        arith,
        turned,
        inner_more x ys xs,
        sum_by-cons (λ z. count_by (test z) (x ∷ ys)) a xs,
        sum_by-cons (λ z. count_by (test z) ys) a xs,
        sum_by-cons (λ z. cond (test x z) 1 0) a xs,
        sum_by-cons (λ z. cond (test a z) 1 0) x ys,
      )

  -- each pair is met twice where each element meets all of the list, and each element meets itself
  all_with_all : (xs : List X) → sum_by (λ a. count_by (test a) xs) xs ≡ 2 * count_pairs test xs + count_by (λ a. test a a) xs
  all_with_all [] = refl
  all_with_all (x ∷ xs) =
      omega (
        arith,
        all_with_all xs,
        inner_more x xs xs,
        sum_by-cons (λ a. count_by (test a) (x ∷ xs)) x xs,
        sum_by-cons (λ z. cond (test x z) 1 0) x xs,
        sum_by-cons (λ a. cond (test a a) 1 0) x xs,
      )

  -- the count of a list in another order
  pub count_pairs-IsPermutation : (xs ys : List X) → IsPermutation xs ys → count_pairs test ys ≡ count_pairs test xs
  count_pairs-IsPermutation xs ys moved =
      let inner = sum_by_same (λ a. count_by (test a) ys) (λ a. count_by (test a) xs) (λ a. sum_by-IsPermutation (λ z. cond (test a z) 1 0) xs ys moved) ys in
      let outer = sum_by-IsPermutation (λ a. count_by (test a) xs) xs ys moved in
      let itself = sum_by-IsPermutation (λ a. cond (test a a) 1 0) xs ys moved in
      omega (arith, inner, outer, itself, all_with_all xs, all_with_all ys)

-- no more pass a test than another one that passes whatever it does
pub count_by-le : {X : Type 0} (p q : X → Bool) (xs : List X) → ((x : X) → Contains xs x → p x ≡ true → q x ≡ true) → count_by p xs ≤ count_by q xs
count_by-le p q [] weaker = omega arith
count_by-le p q (x ∷ xs) weaker =
    let rest = count_by-le p q xs (λ y c passes. weaker y (Contains-there x xs y c) passes) in
    elim (cases_Bool (p x)) [
      | inl passes ↦
          let first : ◌≡◌ {A = ℕ} (cond (p x) 1 0) 1 = ap (λ b. cond b 1 0) passes in
          let second : ◌≡◌ {A = ℕ} (cond (q x) 1 0) 1 = ap (λ b. cond b 1 0) (weaker x (Contains-here x xs) passes) in
          omega (arith, rest, first, second, sum_by-cons (λ y. cond (p y) 1 0) x xs, sum_by-cons (λ y. cond (q y) 1 0) x xs)
      | inr fails ↦
          let first : ◌≡◌ {A = ℕ} (cond (p x) 1 0) 0 = ap (λ b. cond b 1 0) fails in
          omega (arith, rest, first, sum_by-cons (λ y. cond (p y) 1 0) x xs, sum_by-cons (λ y. cond (q y) 1 0) x xs)
    ]

pub count_pairs-le : {X : Type 0} (p q : X → X → Bool) (xs : List X) → ((x y : X) → Contains xs x → Contains xs y → p x y ≡ true → q x y ≡ true)
    → count_pairs p xs ≤ count_pairs q xs
count_pairs-le p q [] weaker = omega arith
count_pairs-le p q (x ∷ xs) weaker =
    let first = count_by-le (p x) (q x) xs (λ y c passes. weaker x y (Contains-here x xs) (Contains-there x xs y c) passes) in
    let rest = count_pairs-le p q xs (λ y z in_y in_z passes. weaker y z (Contains-there x xs y in_y) (Contains-there x xs z in_z) passes) in
    omega (arith, first, rest)

square_more : (n : ℕ) → n * n + (n + n + 1) ≡ (n + 1) * (n + 1)
square_more n = grind arith

-- the pairs of a list are at most half the square of its length
pub count_pairs_square : {X : Type 0} (test : X → X → Bool) (xs : List X) → count_pairs test xs + count_pairs test xs ≤ length xs * length xs
count_pairs_square test [] = omega arith
count_pairs_square test (x ∷ xs) =
    let square = square_more (length xs) in
    let more : length (x ∷ xs) ≡ length xs + 1 = omega arith in
    rw more (omega (arith, count_pairs_square test xs, count_by-le-length (test x) xs, square))

-- all of a list pass a test that always passes
pub length_of_all : {X : Type 0} (xs : List X) → count_by (λ _. true) xs ≡ length xs
length_of_all [] = refl
length_of_all (x ∷ xs) = omega (arith, length_of_all xs, sum_by-cons (λ _. 1) x xs)
