-- A list in which one element is another.
use Rattle.std.proofs.Common.{◌≡◌, ℕ, ◌<◌, List, ◌++◌, length, map, set, get_or, sym, ap, ◌∙◌, arith}
use Rattle.std.proofs.lemmas.List.{map-set, set-get_or, length-append, get_or_append_left}

-- the element stands at that number in the list
pub record IsPlacedOn {X : Type 0} (xs : List X) (k : ℕ) (x : X) : Type 0 where
  pub within : k < length xs
  pub is : x ≡ get_or xs k x

-- what is the same of both elements is the same of both lists
pub same_map : {X Y : Type 0} (f : X → Y) (xs : List X) (k : ℕ) (before after : X) → IsPlacedOn xs k before → f after ≡ f before
    → map f (set xs k after) ≡ map f xs
same_map f xs k before after at same =
    map-set f xs k after
    ∙ ap (set (map f xs) k) same
    ∙ sym (map-set f xs k before)
    ∙ ap (λ x. map f (set xs k x)) at.is
    ∙ ap (map f) (set-get_or xs k before)

pub stands_before : {X : Type 0} (xs ys : List X) (k : ℕ) (x : X) → IsPlacedOn xs k x → IsPlacedOn (xs ++ ys) k x
stands_before xs ys k x at = record {
  within = omega (arith, length-append xs ys, at.within);
  is = at.is ∙ sym (get_or_append_left xs ys x k at.within);
}
