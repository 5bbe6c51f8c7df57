-- Elements of lists by their places.
use Rattle.std.proofs.Common.{◌≡◌, ℕ, ◌<◌, List, Some, slice_get, AllPairs, get_or, sym, ap, ◌∙◌, inl, inr, arith}
use Rattle.std.proofs.lemmas.Bool.{cases_lt, cases_eq}
use Rattle.std.proofs.lemmas.Option.{slice_get_within, get_or_from_slice_get, same_Some}

module _ {X : Type 0} where
  pub AllPairs-at : (R : X → X → Type 0) (xs : List X) (i j : ℕ) (x y : X) → AllPairs R xs → slice_get xs i ≡ Some x → slice_get xs j ≡ Some y → i < j → R x y
  AllPairs-at R xs i j x y rise x_at y_at below =
      let x_is : get_or xs i x ≡ x = get_or_from_slice_get xs i x x x_at in
      let y_is : get_or xs j x ≡ y = get_or_from_slice_get xs j y x y_at in
      rw (x_is, y_is) at (rise i j x below (slice_get_within xs j y y_at))

-- elements told by numbers that rise
module _ {X : Type 0} (number : X → ℕ) (xs : List X) (rise : AllPairs (λ x y. number x < number y) xs) where
  -- the lower number stands first
  pub lower_first : (i j : ℕ) (x y : X) → slice_get xs i ≡ Some x → slice_get xs j ≡ Some y → number x < number y → i < j
  lower_first i j x y x_at y_at below =
      elim (cases_lt i j) [
        | inl first ↦ first
        | inr later ↦ elim (cases_eq i j) [
          | inl same ↦ let alike : x ≡ y = same_Some x y (sym x_at ∙ ap (slice_get xs) same ∙ y_at) in absurd (omega (arith, ap number alike))
          | inr apart ↦ absurd (omega (arith, AllPairs-at (λ a b. number a < number b) xs j i y x rise y_at x_at (omega arith)))
        ]
      ]

  -- equal numbers stand at one place
  pub same_place : (i j : ℕ) (x y : X) → slice_get xs i ≡ Some x → slice_get xs j ≡ Some y → number x ≡ number y → i ≡ j
  same_place i j x y x_at y_at same =
      elim (cases_lt i j) [
        | inl below ↦ absurd (omega (arith, AllPairs-at (λ a b. number a < number b) xs i j x y rise x_at y_at below))
        | inr above ↦ elim (cases_eq i j) [
          | inl equal ↦ equal
          | inr apart ↦ absurd (omega (arith, AllPairs-at (λ a b. number a < number b) xs j i y x rise y_at x_at (omega arith)))
        ]
      ]
