-- The numbers of which an odd number stand in a list, made from the sorted list.
use Rattle.std.proofs.Common.{◌≡◌, ℕ, ◌+◌, ◌-◌, ◌<◌, ◌≤◌, ℤ, pos, ◌<ℤ◌, ◌≤ℤ◌, Bool, true, false, cond, List, [], ◌∷◌, ◌++◌, length, take, get_or, All, Contains, fold, inl, inr, refl, sym, ap, ◌∙◌, arith}
use Rattle.std.specs.Prelude.{int_lt}
use Rattle.std.specs.Ordering.{int_cmp, int_eq, is_lt}
use Rattle.std.specs.List.Sorted.{IsSorted, IsPermutation}
use Rattle.std.proofs.lemmas.Bool.{cases_Bool, false≢true, true≢false}
use Rattle.std.proofs.lemmas.Cmp.{int_cmp_total}
use Rattle.std.proofs.lemmas.Int.{ints}
use Rattle.std.proofs.lemmas.List.{get_or-take, get_or_default, length-append, length-take, take-append-le, take_all, take_more}
use Rattle.std.proofs.lemmas.List.Elements.{All-cons, All-nil, All-head, All-tail, All-weaker, All-contains}
use Rattle.std.proofs.lemmas.List.Sorted.{sorted_far, ranks_by}
use Rattle.leg_lemmas.proofs.Contents.{Contains-nil, Contains-here, Contains-there, Contains-cons_cases, All-from_contains}
use Rattle.leg_lemmas.proofs.Integers.{eq_from_test, lt_test, not_lt_test}
use Rattle.leg_lemmas.proofs.RisingLists.{AllPairs-head, AllPairs-tail}
use Rattle.leg_polygon.specs.Slab.{toggle}
use Rattle.leg_polygon.specs.Inside.{is_odd, differ}
use Rattle.leg_polygon.specs.Steps.Numbers.{ListEndsWith}
use Rattle.leg_polygon.proofs.Parity.{is_odd-nil, is_odd-cons, is_odd-none, is_odd-permutation}
use Rattle.leg_polygon.proofs.RisingNumbers.{Rise, same_numbers}
use Rattle.leg_polygon.proofs.NumberFolds.{odd_rises, odd_from, toggles_rise, is_odd-odd, is_odd-toggles}

-- a number that is not below the others: above all of them, or the last
pub toggle_end : (es : List ℤ) (z : ℤ) → All (λ a. a <ℤ z) es → toggle es z ≡ es ++ z ∷ []
toggle_end [] z below = refl
toggle_end (y ∷ ys) z below =
    let less : y <ℤ z = All-head (λ a. a <ℤ z) y ys below in
    rw (not_lt_test y z less, lt_test y z less) (ap (λ zs. y ∷ zs) (toggle_end ys z (All-tail (λ a. a <ℤ z) y ys below)))

pub toggle_same : (es : List ℤ) (z : ℤ) → Rise (es ++ z ∷ []) → toggle (es ++ z ∷ []) z ≡ es
toggle_same [] z rise = alone (int_lt z z) (not_under z) where
  not_under : (a : ℤ) → int_lt a a ≡ false
  not_under a = grind (arith, ints)

  alone : (b : Bool) → b ≡ false → cond b (z ∷ z ∷ []) (cond b (z ∷ z ∷ []) []) ≡ []
  alone true is = absurd (true≢false is)
  alone false is = refl
toggle_same (y ∷ ys) z rise =
    let last : Contains (ys ++ z ∷ []) z = behind ys in
    let less : y <ℤ z = All-contains (λ b. y <ℤ b) (ys ++ z ∷ []) z (AllPairs-head (λ a b. a <ℤ b) y (ys ++ z ∷ []) rise) last in
    rw (not_lt_test y z less, lt_test y z less) (ap (λ zs. y ∷ zs) (toggle_same ys z (AllPairs-tail (λ a b. a <ℤ b) y (ys ++ z ∷ []) rise)))
  where
    behind : (xs : List ℤ) → Contains (xs ++ z ∷ []) z
    behind [] = Contains-here z []
    behind (x ∷ xs) = Contains-there x (xs ++ z ∷ []) z (behind xs)

-- a list whose last number is this one
pub ends_here : (xs : List ℤ) (z : ℤ) → 0 < length xs → get_or xs (length xs - 1) (pos 0) ≡ z → ListEndsWith xs z
ends_here xs z some is =
    let last = length xs - 1 in
    let whole : length xs ≤ last + 1 = omega (arith, some) in
    record {
      others = take last xs;
      is = sym (take_all (last + 1) xs whole) ∙ take_more xs last (pos 0) (omega (arith, some)) ∙ ap (λ x. take last xs ++ x ∷ []) is;
    }

-- where the number isn't the last, all are below it
pub all_below : (es : List ℤ) (z : ℤ) → Rise es → All (λ a. a ≤ℤ z) es → (ListEndsWith es z → ⊥) → All (λ a. a <ℤ z) es
all_below [] z rise upto other = All-nil (λ a. a <ℤ z)
all_below (y ∷ []) z rise upto other =
    let low : y ≤ℤ z = All-head (λ a. a ≤ℤ z) y [] upto in
    let apart : (y ≡ z) → ⊥ = λ is. other (record { others = []; is = ap (λ x. x ∷ []) is }) in
    let less : y <ℤ z = grind (arith, ints, apart) in
    All-cons (λ a. a <ℤ z) y [] less (All-nil (λ a. a <ℤ z))
all_below (y ∷ x ∷ xs) z rise upto other =
    let rest : All (λ a. a ≤ℤ z) (x ∷ xs) = All-tail (λ a. a ≤ℤ z) y (x ∷ xs) upto in
    let next : x ≤ℤ z = All-head (λ a. a ≤ℤ z) x xs rest in
    let rises : y <ℤ x = All-head (λ b. y <ℤ b) x xs (AllPairs-head (λ a b. a <ℤ b) y (x ∷ xs) rise) in
    let less : y <ℤ z = omega (arith, ints) in
    All-cons (λ a. a <ℤ z) y (x ∷ xs) less
    (all_below (x ∷ xs) z (AllPairs-tail (λ a b. a <ℤ b) y (x ∷ xs) rise) rest
    (λ ends. other (record { others = y ∷ ends.others; is = ap (λ zs. y ∷ zs) ends.is })))

-- it is taken out, or put behind the others
pub taken_out : (old rest : List ℤ) (n : ℕ) (z : ℤ) → Rise old → ListEndsWith old z → n ≡ length old → rest ≡ take (n - 1) old → rest ≡ toggle old z
taken_out old rest n z rise ends long left =
    let long_too : length old ≡ length ends.others + 1 = ap length ends.is ∙ simp length-append in
    let front : n - 1 ≡ length ends.others = omega (arith, long, long_too) in
    let all = length ends.others in
    let split : take all (ends.others ++ z ∷ []) ≡ ends.others =
    take-append-le all ends.others (z ∷ []) (omega arith) ∙ take_all all ends.others (omega arith) in
    let rise_too : Rise (ends.others ++ z ∷ []) = rw ends.is at rise in
    left ∙ ap (λ k. take k old) front ∙ ap (take all) ends.is ∙ split
    ∙ sym (ap (λ zs. toggle zs z) ends.is ∙ toggle_same ends.others z rise_too)

pub put_behind : (old new : List ℤ) (z : ℤ) → Rise old → All (λ a. a ≤ℤ z) old → (ListEndsWith old z → ⊥) → new ≡ old ++ z ∷ [] → new ≡ toggle old z
put_behind old new z rise upto other is = is ∙ sym (toggle_end old z (all_below old z rise upto other))

-- what is put in or taken out so far is not above the next number of a sorted list
pub upto_next : (xs : List ℤ) (i : ℕ) (z : ℤ) → IsSorted int_cmp xs → i < length xs → z ≡ get_or xs i (pos 0) → All (λ a. a ≤ℤ z) (fold toggle [] (take i xs))
upto_next xs i z sorted less is =
    All-from_contains (λ a. a ≤ℤ z) (fold toggle [] (take i xs)) (λ x c. of_place x (odd_from (take i xs) x c))
  where
    not_above : (a b : ℤ) → is_lt (int_cmp a b) ≡ false → b ≤ℤ a
    not_above a b test = grind (arith, ints)

    of_place : (x : ℤ) → Contains (take i xs) x → x ≤ℤ z
    of_place x c =
        let before : c.0 < i = omega (arith, c.1, length-take i xs) in
        let there : get_or xs c.0 (pos 0) ≡ x =
        get_or_default xs c.0 (pos 0) x (omega (arith, before, less)) ∙ sym (get_or-take i xs c.0 x before) ∙ c.2 in
        let far = sorted_far (λ a b. is_lt (int_cmp a b)) (ranks_by int_cmp_total (λ (a : ℤ). a)) xs sorted c.0 i (pos 0) (omega (arith, before)) less in
        not_above z x (rw (there, ← is) at far)

-- a rising list has a number just if an odd number of its elements are this number
contains_odd : (es : List ℤ) (x : ℤ) → Rise es → Contains es x → is_odd (int_eq x) es ≡ true
contains_odd [] x rise c = absurd (Contains-nil x c)
contains_odd (y ∷ ys) x rise c = elim (Contains-cons_cases y ys x c) [
  | inl here ↦
      let test : int_eq x y ≡ true = grind (arith, ints) in
      let none : All (λ b. int_eq x b ≡ false) ys =
      All-weaker (λ b. y <ℤ b) (λ b. int_eq x b ≡ false) (λ b more. apart b (rw here at more)) ys (AllPairs-head (λ a b. a <ℤ b) y ys rise) in
      is_odd-cons (int_eq x) y ys ∙ rw (test, is_odd-none (int_eq x) ys none) refl
  | inr later ↦
      let more : y <ℤ x = All-contains (λ b. y <ℤ b) ys x (AllPairs-head (λ a b. a <ℤ b) y ys rise) later in
      let test : int_eq x y ≡ false = grind (arith, ints) in
      is_odd-cons (int_eq x) y ys ∙ rw test (contains_odd ys x (AllPairs-tail (λ a b. a <ℤ b) y ys rise) later)
]
  where
    apart : (b : ℤ) → x <ℤ b → int_eq x b ≡ false
    apart b more = grind (arith, ints)

odd_contains : (es : List ℤ) (x : ℤ) → is_odd (int_eq x) es ≡ true → Contains es x
odd_contains [] x odd = absurd (false≢true (sym (is_odd-nil (int_eq x)) ∙ odd))
odd_contains (y ∷ ys) x odd = elim (cases_Bool (int_eq x y)) [
  | inl is ↦ rw (eq_from_test x y is) (Contains-here y ys)
  | inr other ↦
      let rest : is_odd (int_eq x) ys ≡ true = rw (is_odd-cons (int_eq x) y ys, other) at odd in
      Contains-there y ys x (odd_contains ys x rest)
]

-- two rising lists are one in which each number stands an odd number of times just if it does in the other
pub same_odd : (xs ys : List ℤ) → Rise xs → Rise ys → ((z : ℤ) → is_odd (int_eq z) xs ≡ is_odd (int_eq z) ys) → xs ≡ ys
same_odd xs ys rise_x rise_y agree =
    same_numbers xs ys rise_x rise_y (λ z c. odd_contains ys z (sym (agree z) ∙ contains_odd xs z rise_x c))
    (λ z c. odd_contains xs z (agree z ∙ contains_odd ys z rise_y c))

-- the order of the list doesn't matter
pub odd_in_order : (zs sorted : List ℤ) → IsPermutation zs sorted → fold toggle [] sorted ≡ fold toggle [] zs
odd_in_order zs sorted moved =
    same_odd (fold toggle [] sorted) (fold toggle [] zs) (odd_rises sorted) (odd_rises zs)
    (λ z. is_odd-odd (int_eq z) sorted ∙ is_odd-permutation (int_eq z) zs sorted moved ∙ sym (is_odd-odd (int_eq z) zs))

-- what is put in or taken out, all of it or only what stands an odd number of times
pub only_odd : (es zs : List ℤ) → Rise es → fold toggle es (fold toggle [] zs) ≡ fold toggle es zs
only_odd es zs rise =
    same_odd (fold toggle es (fold toggle [] zs)) (fold toggle es zs) (toggles_rise (fold toggle [] zs) es rise) (toggles_rise zs es rise)
    (λ z. is_odd-toggles (int_eq z) (fold toggle [] zs) es ∙ ap (λ b. differ b (is_odd (int_eq z) es)) (is_odd-odd (int_eq z) zs)
    ∙ sym (is_odd-toggles (int_eq z) zs es))
