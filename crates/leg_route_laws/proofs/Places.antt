-- What lists have at their places.
use Rattle.std.proofs.Common.{◌≡◌, ℕ, zero, suc, List, [], ◌∷◌, slice_get, Contains, Some, refl}
use Rattle.std.proofs.lemmas.Option.{none-some}
use Rattle.leg_lemmas.proofs.Places.{place_of_contained}
use Rattle.leg_lib_records.specs.Scale.{OneForOne}
pub use Rattle.leg_lemmas.proofs.Places.{contains_at, set_here, set_elsewhere, comes_from}

-- what stands for an element of a list, in a list that is like it one for one
pub record HasLike {X Y : Type 0} (R : X → Y → Type 0) (ys : List Y) (x : X) : Type 0 where
  pub y : Y
  pub there : Contains ys y
  pub like : R x y

pub record IsLike {X Y : Type 0} (R : X → Y → Type 0) (xs : List X) (y : Y) : Type 0 where
  pub x : X
  pub there : Contains xs x
  pub like : R x y

module _ {X Y : Type 0} (R : X → Y → Type 0) where
  like_at : (xs : List X) (ys : List Y) (k : ℕ) (x : X) → OneForOne R xs ys → slice_get xs k ≡ Some x → (y : Y) × (slice_get ys k ≡ Some y) × R x y
  like_at [] [] k x each at = absurd (none-some x at)
  like_at [] (y ∷ ys) k x each at = absurd each
  like_at (z ∷ xs) [] k x each at = absurd each
  like_at (z ∷ xs) (y ∷ ys) zero x each at =
      let same : z ≡ x = cc in
      (y, refl, rw (← same) each.0)
  like_at (z ∷ xs) (y ∷ ys) (suc k) x each at = like_at xs ys k x each.1 at

  of_at : (xs : List X) (ys : List Y) (k : ℕ) (y : Y) → OneForOne R xs ys → slice_get ys k ≡ Some y → (x : X) × (slice_get xs k ≡ Some x) × R x y
  of_at [] [] k y each at = absurd (none-some y at)
  of_at [] (z ∷ ys) k y each at = absurd each
  of_at (x ∷ xs) [] k y each at = absurd each
  of_at (x ∷ xs) (z ∷ ys) zero y each at =
      let same : z ≡ y = cc in
      (x, refl, rw (← same) each.0)
  of_at (x ∷ xs) (z ∷ ys) (suc k) y each at = of_at xs ys k y each.1 at

  pub has_like : (xs : List X) (ys : List Y) (x : X) → OneForOne R xs ys → Contains xs x → HasLike R ys x
  has_like xs ys x each c =
      let at = place_of_contained xs x c in
      let it = like_at xs ys at.k x each at.there in
      record { y = it.0; there = contains_at ys at.k it.0 it.1; like = it.2 }

  pub is_like : (xs : List X) (ys : List Y) (y : Y) → OneForOne R xs ys → Contains ys y → IsLike R xs y
  is_like xs ys y each c =
      let at = place_of_contained ys y c in
      let it = of_at xs ys at.k y each at.there in
      record { x = it.0; there = contains_at xs at.k it.0 it.1; like = it.2 }
