-- The greatest of the first elements of a list.
use Rattle.std.proofs.Common.{◌≡◌, ℕ, zero, suc, ◌+◌, ◌<◌, ◌≤◌, max, nat_cmp, List, [], ◌∷◌, length, get_or, take, All, add-one, arith}
use Rattle.std.specs.Ordering.{ord_max}
use Rattle.std.proofs.lemmas.List.Elements.{All-head, All-tail}
use Rattle.leg_drc.specs.Steps.Reach.{greatest_by}

-- the greater of two numbers, as code finds it
pub max_is : (a b m : ℕ) → m ≡ ord_max nat_cmp a b → m ≡ max a b
max_is a b m is = grind arith

module _ {X : Type 0} (f : X → ℕ) where
  by_next : (xs : List X) (k : ℕ) (d : X) → k < length xs → greatest_by f (take (suc k) xs) ≡ max (greatest_by f (take k xs)) (f (get_or xs k d))
  by_next [] k d within = absurd (omega arith)
  by_next (x ∷ xs) zero d within = omega arith
  by_next (x ∷ xs) (suc k) d within = let more = by_next xs k d (omega arith) in omega (arith, more)

  -- one more element
  pub greatest_more : (xs : List X) (k : ℕ) (d : X) → k < length xs → greatest_by f (take (k + 1) xs) ≡ max (greatest_by f (take k xs)) (f (get_or xs k d))
  greatest_more xs k d within = rw (add-one k) (by_next xs k d within)

  -- what is above no element's value is above the greatest
  pub greatest_within : (limit : ℕ) (xs : List X) → All (λ x. f x ≤ limit) xs → greatest_by f xs ≤ limit
  greatest_within limit [] each = omega arith
  greatest_within limit (x ∷ xs) each =
      omega (arith, All-head (λ x. f x ≤ limit) x xs each, greatest_within limit xs (All-tail (λ x. f x ≤ limit) x xs each))
