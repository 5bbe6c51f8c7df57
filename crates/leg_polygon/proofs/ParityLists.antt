-- An odd number of elements of a filtered list, or of a mapped one.
use Rattle.std.proofs.Common.{◌≡◌, ◌&&◌, Bool, true, false, List, [], ◌∷◌, cond, map, sym, ap, ◌∙◌}
use Rattle.std.specs.List.{filter}
use Rattle.leg_polygon.specs.Inside.{is_odd, differ}
use Rattle.leg_polygon.proofs.Parity.{is_odd-nil, is_odd-cons}

module _ {X : Type 0} (test kept : X → Bool) where
  -- of a filtered list: of the whole list, those that are kept and pass
  pub is_odd-filter : (xs : List X) → is_odd test (filter kept xs) ≡ is_odd (λ x. kept x && test x) xs
  is_odd-filter [] = is_odd-nil test ∙ sym (is_odd-nil (λ x. kept x && test x))
  is_odd-filter (x ∷ xs) = by (kept x) (is_odd-filter xs) ∙ sym (is_odd-cons (λ y. kept y && test y) x xs)
    where
      by : (b : Bool) → is_odd test (filter kept xs) ≡ is_odd (λ y. kept y && test y) xs
          → is_odd test (cond b (x ∷ filter kept xs) (filter kept xs)) ≡ differ (b && test x) (is_odd (λ y. kept y && test y) xs)
      by true rest = is_odd-cons test x (filter kept xs) ∙ ap (differ (test x)) rest
      by false rest = rest

module _ {X Y : Type 0} (test : Y → Bool) (f : X → Y) where
  pub is_odd-map : (xs : List X) → is_odd test (map f xs) ≡ is_odd (λ x. test (f x)) xs
  is_odd-map [] = is_odd-nil test ∙ sym (is_odd-nil (λ x. test (f x)))
  is_odd-map (x ∷ xs) =
      is_odd-cons test (f x) (map f xs) ∙ ap (differ (test (f x))) (is_odd-map xs) ∙ sym (is_odd-cons (λ y. test (f y)) x xs)
