-- The elements of a list that has got one more, or another one in a place.
use Rattle.std.proofs.Common.{◌≡◌, ℕ, suc, zero, ◌<◌, ◌⊎◌, inl, inr, List, [], ◌∷◌, ◌++◌, Some, slice_get, length, refl, arith}
use Rattle.std.proofs.lemmas.Option.{same_Some, none-some}

-- an element of it is an old one, or the new one in the last place
pub record IsOld {X : Type 0} (xs : List X) (j : ℕ) (y : X) : Type 0 where
  pub below : j < length xs
  pub is : slice_get xs j ≡ Some y

pub record IsLast {X : Type 0} (xs : List X) (x : X) (j : ℕ) (y : X) : Type 0 where
  pub last : j ≡ length xs
  pub is : x ≡ y

pub read_pushed : {X : Type 0} (xs : List X) (x : X) (j : ℕ) (y : X) → slice_get (xs ++ x ∷ []) j ≡ Some y → IsOld xs j y ⊎ IsLast xs x j y
read_pushed [] x zero y is = inr (record { last = refl; is = same_Some x y is })
read_pushed [] x (suc j) y is = absurd (none-some y is)
read_pushed (a ∷ xs) x zero y is = inl (record { below = omega arith; is = is })
read_pushed (a ∷ xs) x (suc j) y is = elim (read_pushed xs x j y is) [
  | inl old ↦ inl (record { below = omega (arith, old.below); is = old.is })
  | inr last ↦ inr (record { last = omega (arith, last.last); is = last.is })
]
