-- Numbers of which some are dropped, and others added.
use Rattle.std.proofs.Common.{◌≡◌, ℕ, ◌⊎◌, inl, inr, Bool, true, false, List, [], ◌∷◌, Contains, length, refl, sym, subst, arith}
use Rattle.std.specs.List.{items_where_true}
use Rattle.std.specs.List.Retain.{IsFiltered, ReturnsInTurn}
use Rattle.leg_lemmas.proofs.Contents.{Contains-cons_cases, Contains-there}
use Rattle.leg_route_grid.specs.Steps.SlotRanges.{HaveGot, HaveDropped}

module _ {X F : Type 0} (R : F → X → Bool → F → Type 0) (P : X → Type 0) (f : F)
    (h : (x : X) (b : Bool) (g : F) → R f x b g → (b ≡ false → P x) × (g ≡ f)) where
  still_there : (bs : List Bool) (xs : List X) (y : X) → Contains (items_where_true bs xs) y → Contains xs y
  still_there [] xs y there = absurd (omega (arith, there.1))
  still_there (b ∷ bs) [] y there = absurd (omega (arith, there.1))
  still_there (true ∷ bs) (x ∷ xs) y there = elim (Contains-cons_cases x (items_where_true bs xs) y there) [
    | inl same ↦ (0, omega arith, same)
    | inr more ↦ Contains-there x xs y (still_there bs xs y more)
  ]
  still_there (false ∷ bs) (x ∷ xs) y there = Contains-there x xs y (still_there bs xs y there)

  left_or : (bs : List Bool) (xs : List X) (q : F) → length bs ≡ length xs → ReturnsInTurn R f bs xs q → (y : X) → Contains xs y
      → Contains (items_where_true bs xs) y ⊎ P y
  left_or [] [] q long told y there = absurd (omega (arith, there.1))
  left_or [] (x ∷ xs) q long told y there = absurd (omega (arith, long))
  left_or (b ∷ bs) [] q long told y there = absurd told
  left_or (true ∷ bs) (x ∷ xs) q long told y there =
      let one = h x true told.0 told.1 in
      let rest = left_or bs xs q (omega (arith, long)) (subst (λ (g : F). ReturnsInTurn R g bs xs q) one.1 told.2) y in
      elim (Contains-cons_cases x xs y there) [
        | inl same ↦ inl (0, omega arith, same)
        | inr more ↦ elim (rest more) [ inl left ↦ inl (Contains-there x (items_where_true bs xs) y left) | inr p ↦ inr p ]
      ]
  left_or (false ∷ bs) (x ∷ xs) q long told y there =
      let one = h x false told.0 told.1 in
      let rest = left_or bs xs q (omega (arith, long)) (subst (λ (g : F). ReturnsInTurn R g bs xs q) one.1 told.2) y in
      elim (Contains-cons_cases x xs y there) [ inl same ↦ inr (subst P same (one.0 refl)) | inr more ↦ rest more ]

  -- what is left where a closure says of which numbers it is `false`
  pub left_of : (xs ys : List X) → IsFiltered R f xs ys → ((y : X) → Contains ys y → Contains xs y) × ((y : X) → Contains xs y → Contains ys y ⊎ P y)
  left_of xs ys kept = (
    λ y there. still_there kept.0 xs y (subst (λ (ys : List X). Contains ys y) kept.4 there),
    λ y there. elim (left_or kept.0 xs kept.1 kept.2 kept.3 y there) [
      | inl left ↦
          inl (subst (λ (ys : List X). Contains ys y) (sym kept.4) left)
      | inr p ↦ inr p
    ],
  )

pub none_dropped : (P : ℕ → Type 0) (numbers : List ℕ) → HaveDropped P numbers numbers
none_dropped P numbers = record { old = λ n there. there; kept = λ n there. inl there }

-- those that were dropped are among those that are added
pub got_again : (New : ℕ → Type 0) (before mid after : List ℕ) → HaveDropped New before mid → HaveGot New mid after → HaveGot New before after
got_again New before mid after dropped got n = (
  λ there. elim ((got n).0 there) [ inl left ↦ inl (dropped.old n left) | inr new ↦ inr new ],
  elim [
    | inl old ↦ elim (dropped.kept n old) [ inl left ↦ (got n).1 (inl left) | inr new ↦ (got n).1 (inr new) ]
    | inr new ↦ (got n).1 (inr new)
  ],
)
