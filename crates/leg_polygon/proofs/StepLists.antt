-- Elements after the ones before them: a loop that goes through them and gathers what each two give.
use Rattle.std.proofs.Common.{◌≡◌, ℕ, ◌+◌, ◌<◌, List, [], ◌∷◌, ◌++◌, length, drop, get_or, Bool, map, refl, sym, ap, ◌∙◌, append_assoc}
use Rattle.std.specs.List.{filter}
use Rattle.std.proofs.lemmas.List.{drop_more, map-append}
use Rattle.std.proofs.lemmas.List.Elements.{filter-append}
use Rattle.leg_polygon.specs.Walk.{steps_from}

-- what is left of a list at a place: the element there, and the rest
pub left_at : {X : Type 0} (xs last : List X) (i : ℕ) (x : X) → i < length xs → x ≡ get_or xs i x → drop i xs ++ last ≡ x ∷ (drop (i + 1) xs ++ last)
left_at xs last i x less is = rw (drop_more xs i x less, ← is) refl

module _ {X Y : Type 0} (gather : List (X × X) → List Y)
    (splits : (two : X × X) (others : List (X × X)) → gather (two ∷ others) ≡ gather (two ∷ []) ++ gather others) where
  -- one step more of the loop
  pub step_more : (done now whole : List Y) (before x : X) (todo after : List X) → todo ≡ x ∷ after
      → done ++ gather (steps_from before todo) ≡ whole → now ≡ done ++ gather ((before, x) ∷ []) → now ++ gather (steps_from x after) ≡ whole
  step_more done now whole before x todo after left so_far more =
      let here = gather ((before, x) ∷ []) in
      let next = steps_from x after in
      let next_more : now ++ gather next ≡ (done ++ here) ++ gather next = ap (λ ys. ys ++ gather next) more in
      let split : done ++ (here ++ gather next) ≡ done ++ gather ((before, x) ∷ next) = ap (λ ys. done ++ ys) (sym (splits (before, x) next)) in
      let last : done ++ gather ((before, x) ∷ next) ≡ whole = rw left at so_far in
      next_more ∙ append_assoc done here (gather next) ∙ split ∙ last

-- what two give, when a list of them is filtered, and when the ones kept are mapped
filter_splits : {X : Type 0} (test : X → Bool) (x : X) (xs : List X) → filter test (x ∷ xs) ≡ filter test (x ∷ []) ++ filter test xs
filter_splits test x xs = filter-append test (x ∷ []) xs

pub kept_splits : {X Y : Type 0} (f : X → Y) (test : X → Bool) (x : X) (xs : List X)
    → map f (filter test (x ∷ xs)) ≡ map f (filter test (x ∷ [])) ++ map f (filter test xs)
kept_splits f test x xs = ap (map f) (filter_splits test x xs) ∙ map-append f (filter test (x ∷ [])) (filter test xs)
