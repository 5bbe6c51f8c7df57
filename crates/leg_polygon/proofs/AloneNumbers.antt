-- The numbers that stand in just one of two lists, made by going through both from their first numbers.
use Rattle.std.proofs.Common.{◌≡◌, ◌-◌, ◌<◌, ◌≤◌, ℤ, pos, ◌<ℤ◌, List, [], ◌∷◌, ◌++◌, length, take, drop, get_or, All, fold, refl, sym, ap, ◌∙◌, append_assoc, arith}
use Rattle.std.proofs.lemmas.Int.{ints}
use Rattle.std.proofs.lemmas.List.{take_all}
use Rattle.std.proofs.lemmas.List.Elements.{All-head, All-tail}
use Rattle.leg_lemmas.proofs.Integers.{lt_test, not_lt_test}
use Rattle.leg_lemmas.proofs.RisingLists.{AllPairs-head}
use Rattle.leg_polygon.specs.Slab.{toggle}
use Rattle.leg_polygon.proofs.RisingNumbers.{Rise, below, above, same, compared, above_all, rest_rises}

-- numbers above the first one leave it where it is
toggle_behind : (a : ℤ) (later : List ℤ) (b : ℤ) → a <ℤ b → toggle (a ∷ later) b ≡ a ∷ toggle later b
toggle_behind a later b less = rw (not_lt_test a b less, lt_test a b less) refl

toggles_behind : (a : ℤ) (later bs : List ℤ) → All (λ b. a <ℤ b) bs → fold toggle (a ∷ later) bs ≡ a ∷ fold toggle later bs
toggles_behind a later [] more = refl
toggles_behind a later (b ∷ bs) more =
    ap (λ es. fold toggle es bs) (toggle_behind a later b (All-head (λ c. a <ℤ c) b bs more))
    ∙ toggles_behind a (toggle later b) bs (All-tail (λ c. a <ℤ c) b bs more)

toggle_front : (a : ℤ) (later : List ℤ) (b : ℤ) → b <ℤ a → toggle (a ∷ later) b ≡ b ∷ a ∷ later
toggle_front a later b less = rw (lt_test b a less) refl

toggle_first : (a : ℤ) (later : List ℤ) (b : ℤ) → a ≡ b → toggle (a ∷ later) b ≡ later
toggle_first a later b is = elim (compared b a) [
  | below less test ↦ absurd (omega (arith, ints, less, is))
  | above more less test ↦ absurd (omega (arith, ints, more, is))
  | same equal less more ↦ rw (less, more) refl
]

-- a rising list, put into no list
none_before : (bs : List ℤ) → Rise bs → fold toggle [] bs ≡ bs
none_before [] rise = refl
none_before (b ∷ bs) rise =
    toggles_behind b [] bs (AllPairs-head (λ x y. x <ℤ y) b bs rise) ∙ ap (λ zs. b ∷ zs) (none_before bs (rest_rises b bs rise))

rest_is : (x : ℤ) (xs : List ℤ) → take (length (x ∷ xs) - 1) (drop 1 (x ∷ xs)) ≡ xs
rest_is x xs =
    let left : length (x ∷ xs) - 1 ≡ length xs = omega arith in
    ap (λ n. take n xs) left ∙ take_all (length xs) xs (omega arith)

-- what was made so far of two lists, with what is left of them
pub record IsSoFar (whole made first second : List ℤ) : Type 0 where
  pub is : made ++ fold toggle first second ≡ whole
  pub rise : Rise second

module _ (whole made now : List ℤ) where
  -- the first list's first number is below the other's
  pub first_below : (first second : List ℤ) → IsSoFar whole made first second → 1 ≤ length first → 1 ≤ length second
      → get_or first 0 (pos 0) <ℤ get_or second 0 (pos 0) → now ≡ made ++ get_or first 0 (pos 0) ∷ []
      → IsSoFar whole now (take (length first - 1) (drop 1 first)) second
  first_below [] second so_far some others less more = absurd (omega (arith, some))
  first_below (a ∷ later) [] so_far some others less more = absurd (omega (arith, others))
  first_below (a ∷ later) (b ∷ bs) so_far some others less more = record {
    is =
        ap (λ zs. now ++ fold toggle zs (b ∷ bs)) (rest_is a later)
        ∙ ap (λ zs. zs ++ fold toggle later (b ∷ bs)) more
        ∙ append_assoc made (a ∷ []) (fold toggle later (b ∷ bs))
        ∙ ap (λ zs. made ++ zs) (sym (toggles_behind a later (b ∷ bs) (above_all a b bs less so_far.rise)))
        ∙ so_far.is;
    rise = so_far.rise;
  }

  -- the second list's first number is below the other's
  pub second_below : (first second : List ℤ) → IsSoFar whole made first second → 1 ≤ length first → 1 ≤ length second
      → get_or second 0 (pos 0) <ℤ get_or first 0 (pos 0) → now ≡ made ++ get_or second 0 (pos 0) ∷ []
      → IsSoFar whole now first (take (length second - 1) (drop 1 second))
  second_below [] second so_far some others less more = absurd (omega (arith, some))
  second_below (a ∷ later) [] so_far some others less more = absurd (omega (arith, others))
  second_below (a ∷ later) (b ∷ bs) so_far some others less more = record {
    is =
        ap (λ zs. now ++ fold toggle (a ∷ later) zs) (rest_is b bs)
        ∙ ap (λ zs. zs ++ fold toggle (a ∷ later) bs) more
        ∙ append_assoc made (b ∷ []) (fold toggle (a ∷ later) bs)
        ∙ ap (λ zs. made ++ zs) (sym (toggles_behind b (a ∷ later) bs (AllPairs-head (λ x y. x <ℤ y) b bs so_far.rise)))
        ∙ ap (λ es. made ++ fold toggle es bs) (sym (toggle_front a later b less))
        ∙ so_far.is;
    rise = rw (rest_is b bs) (rest_rises b bs so_far.rise);
  }

-- the first numbers are the same
pub both_same : (whole made first second : List ℤ) → IsSoFar whole made first second → 1 ≤ length first → 1 ≤ length second
    → get_or first 0 (pos 0) ≡ get_or second 0 (pos 0)
    → IsSoFar whole made (take (length first - 1) (drop 1 first)) (take (length second - 1) (drop 1 second))
both_same whole made [] second so_far some others equal = absurd (omega (arith, some))
both_same whole made (a ∷ later) [] so_far some others equal = absurd (omega (arith, others))
both_same whole made (a ∷ later) (b ∷ bs) so_far some others equal = record {
  is =
      ap (λ zs. made ++ fold toggle zs (take (length (b ∷ bs) - 1) (drop 1 (b ∷ bs)))) (rest_is a later)
      ∙ ap (λ zs. made ++ fold toggle later zs) (rest_is b bs)
      ∙ ap (λ es. made ++ fold toggle es bs) (sym (toggle_first a later b equal))
      ∙ so_far.is;
  rise = rw (rest_is b bs) (rest_rises b bs so_far.rise);
}

-- only the second list is left
pub only_second : (whole made first second : List ℤ) → IsSoFar whole made first second → length first < 1 → made ++ second ≡ whole
only_second whole made [] second so_far none = ap (λ zs. made ++ zs) (sym (none_before second so_far.rise)) ∙ so_far.is
only_second whole made (a ∷ later) second so_far none = absurd (omega (arith, none))
