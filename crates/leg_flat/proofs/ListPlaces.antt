-- What lists have at their places, and what a walk gives.
use Rattle.std.proofs.Common.{◌≡◌, ℕ, zero, suc, ◌+◌, ◌⊎◌, inl, inr, List, [], ◌∷◌, map, slice_get, Contains, Some, refl, sym, subst, add-zero, zero-add, arith}
use Rattle.std.proofs.lemmas.List.Elements.{Contains-append_left, Contains-append_right, Contains-append_cases}
use Rattle.std.proofs.lemmas.Option.{slice_get_within}
use Rattle.leg_lemmas.proofs.Places.{place_of_contained}
use Rattle.leg_lemmas.proofs.Contents.{Contains-nil}
use Rattle.leg_flat.proofs.MoreMetal.{walk}

-- an element of what a list is mapped to comes from one
pub record Comes {X Y : Type 0} (f : X → Y) (xs : List X) (y : Y) : Type 0 where
  pub x : X
  pub k : ℕ
  pub there : slice_get xs k ≡ Some x
  pub is : f x ≡ y

pub comes_at : {X Y : Type 0} (f : X → Y) (xs : List X) (k : ℕ) (y : Y) → slice_get (map f xs) k ≡ Some y → Comes f xs y
comes_at f [] k y at = absurd (let e : ⊥ = omega (arith, slice_get_within [] k y at) in e)
comes_at f (x ∷ xs) zero y at = record { x = x; k = 0; there = refl; is = let e : f x ≡ y = cc in e }
comes_at f (x ∷ xs) (suc k) y at =
    let from = comes_at f xs k y at in
    record { x = from.x; k = suc from.k; there = from.there; is = from.is }

pub comes : {X Y : Type 0} (f : X → Y) (xs : List X) (y : Y) → Contains (map f xs) y → Comes f xs y
comes f xs y c = let at = place_of_contained (map f xs) y c in comes_at f xs at.k y at.there

-- what an element of a list gives in a walk
pub record IsGiven {X Y : Type 0} (f : ℕ → X → List Y) (k : ℕ) (xs : List X) (y : Y) : Type 0 where
  pub i : ℕ
  pub x : X
  pub there : slice_get xs i ≡ Some x
  pub given : Contains (f (k + i) x) y

pub given : {X Y : Type 0} (f : ℕ → X → List Y) (k : ℕ) (xs : List X) (y : Y) → Contains (walk f k xs) y → IsGiven f k xs y
given f k [] y c = absurd (Contains-nil y c)
given f k (x ∷ xs) y c = by (given f (suc k) xs y) (Contains-append_cases (f k x) (walk f (suc k) xs) y c) where
  by : (Contains (walk f (suc k) xs) y → IsGiven f (suc k) xs y) → Contains (f k x) y ⊎ Contains (walk f (suc k) xs) y → IsGiven f k (x ∷ xs) y
  by rest (inl here) = record { i = 0; x = x; there = refl; given = subst (λ n. Contains (f n x) y) (sym (add-zero k)) here }
  by rest (inr later) =
      let it = rest later in
      let next : suc k + it.i ≡ k + suc it.i = omega arith in
      record { i = suc it.i; x = it.x; there = it.there; given = subst (λ n. Contains (f n it.x) y) next it.given }

pub gives : {X Y : Type 0} (f : ℕ → X → List Y) (k : ℕ) (xs : List X) (i : ℕ) (x : X) (y : Y) → slice_get xs i ≡ Some x → Contains (f (k + i) x) y
    → Contains (walk f k xs) y
gives f k [] i x y at c = absurd (let e : ⊥ = omega (arith, slice_get_within [] i x at) in e)
gives f k (w ∷ xs) zero x y at c =
    let it : w ≡ x = cc in
    let here : Contains (f k x) y = subst (λ n. Contains (f n x) y) (add-zero k) c in
    Contains-append_left (f k w) (walk f (suc k) xs) y (rw it here)
gives f k (w ∷ xs) (suc i) x y at c =
    let next : k + suc i ≡ suc k + i = omega arith in
    let later : Contains (f (suc k + i) x) y = subst (λ n. Contains (f n x) y) next c in
    Contains-append_right (f k w) (walk f (suc k) xs) y (gives f (suc k) xs i x y at later)

-- the same in a walk whose numbers are the places
pub record IsGivenAt {X Y : Type 0} (f : ℕ → X → List Y) (xs : List X) (y : Y) : Type 0 where
  pub i : ℕ
  pub x : X
  pub there : slice_get xs i ≡ Some x
  pub given : Contains (f i x) y

pub given_at : {X Y : Type 0} (f : ℕ → X → List Y) (xs : List X) (metal : List Y) (y : Y) → metal ≡ walk f 0 xs → Contains metal y → IsGivenAt f xs y
given_at f xs metal y is c =
    let it = given f 0 xs y (subst (λ ys. Contains ys y) is c) in
    record { i = it.i; x = it.x; there = it.there; given = subst (λ n. Contains (f n it.x) y) (zero-add it.i) it.given }

pub gives_at : {X Y : Type 0} (f : ℕ → X → List Y) (xs : List X) (metal : List Y) (i : ℕ) (x : X) (y : Y) → metal ≡ walk f 0 xs → slice_get xs i ≡ Some x
    → Contains (f i x) y → Contains metal y
gives_at f xs metal i x y is at c =
    subst (λ ys. Contains ys y) (sym is) (gives f 0 xs i x y at (subst (λ n. Contains (f n x) y) (sym (zero-add i)) c))
