-- What a list contains.
use Rattle.std.proofs.Common.{◌≡◌, zero, suc, Bool, true, false, cond, List, [], ◌∷◌, map, All, Contains, ◌⊎◌, inl, inr, refl, ap, arith}
use Rattle.std.specs.List.{filter}
use Rattle.std.proofs.lemmas.Bool.{cases_Bool}
use Rattle.std.proofs.lemmas.List.Elements.{All-cons, All-nil}

module _ {X : Type 0} where
  -- an empty list contains nothing
  pub Contains-nil : (x : X) → Contains [] x → ⊥
  Contains-nil x c = omega (arith, c.1)

  -- a list contains what stands in front
  pub Contains-here : (x : X) (xs : List X) → Contains (x ∷ xs) x
  Contains-here x xs = (zero, omega arith, refl)

  -- and what stands behind it
  pub Contains-there : (y : X) (xs : List X) (x : X) → Contains xs x → Contains (y ∷ xs) x
  Contains-there y xs x c = (suc c.0, omega (arith, c.1), c.2)

  -- and no more
  pub Contains-cons_cases : (y : X) (xs : List X) (x : X) → Contains (y ∷ xs) x → (y ≡ x) ⊎ Contains xs x
  Contains-cons_cases y xs x (zero, within, is) = inl is
  Contains-cons_cases y xs x (suc k, within, is) = inr (k, omega arith, is)

  -- what a list contains stands among those that pass a test, if it passes
  pub Contains-filter : (test : X → Bool) (x : X) (xs : List X) → test x ≡ true → Contains xs x → Contains (filter test xs) x
  Contains-filter test x [] passes c = absurd (Contains-nil x c)
  Contains-filter test x (y ∷ xs) passes c = elim (Contains-cons_cases y xs x c) [
    | inl same ↦ let here : test y ≡ true = rw same passes in rw here (zero, omega arith, same)
    | inr later ↦ behind (test y) (Contains-filter test x xs passes later)
  ] where
    behind : (b : Bool) → Contains (filter test xs) x → Contains (cond b (y ∷ filter test xs) (filter test xs)) x
    behind true has = Contains-there y (filter test xs) x has
    behind false has = has

  -- and nothing else stands there
  pub Contains-from_filter : (test : X → Bool) (xs : List X) (x : X) → Contains (filter test xs) x → Contains xs x × (test x ≡ true)
  Contains-from_filter test [] x c = absurd (Contains-nil x c)
  Contains-from_filter test (y ∷ ys) x c =
      elim (cases_Bool (test y)) [
        | inl kept ↦ elim (Contains-cons_cases y (filter test ys) x (rw kept at c)) [
          | inl here ↦ (rw (← here) (Contains-here y ys), rw (← here) kept)
          | inr later ↦ let rest = Contains-from_filter test ys x later in (Contains-there y ys x rest.0, rest.1)
        ]
        | inr dropped ↦ let rest = Contains-from_filter test ys x (rw dropped at c) in (Contains-there y ys x rest.0, rest.1)
      ]

  -- what holds of whatever a list contains holds of all of it
  pub All-from_contains : (P : X → Type 0) (xs : List X) → ((x : X) → Contains xs x → P x) → All P xs
  All-from_contains P [] each = All-nil P
  All-from_contains P (x ∷ xs) each =
      All-cons P x xs (each x (Contains-here x xs)) (All-from_contains P xs (λ y c. each y (Contains-there x xs y c)))

module _ {X Y : Type 0} (f : X → Y) where
  -- a mapped list contains the image of what the list contains
  pub Contains-map : (xs : List X) (x : X) → Contains xs x → Contains (map f xs) (f x)
  Contains-map [] x c = absurd (Contains-nil x c)
  Contains-map (y ∷ xs) x c =
      elim (Contains-cons_cases y xs x c) [
        | inl same ↦ (zero, omega arith, ap f same)
        | inr rest ↦ Contains-there (f y) (map f xs) (f x) (Contains-map xs x rest)
      ]
