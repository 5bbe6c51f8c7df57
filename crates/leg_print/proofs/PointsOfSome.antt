-- The least box round the points of some of a list, as a loop comes to them one by one.
use Rattle.std.proofs.Common.{◌≡◌, ◌↔◌, ◌⊎◌, inl, inr, ℕ, ◌+◌, ◌<◌, ◌≤◌, List, [], ◌∷◌, ◌++◌, length, get_or, take, Contains, Option, sym, subst, arith}
use Rattle.std.proofs.lemmas.Int.{ints}
use Rattle.std.proofs.lemmas.List.{take_more, take_all}
use Rattle.std.proofs.lemmas.List.Elements.{Contains-append_left, Contains-push, Contains-push_cases}
use Rattle.leg_geom.specs.Plane.{PointModel, RectModel, IsRect, HasPoint}
use Rattle.leg_rules.specs.Wirelength.{IsLeastBox, IsLeastBoxIfAny}
use Rattle.leg_print.specs.Steps.Wirelength.{IsOfSome, joined_if_any}
use Rattle.leg_print.proofs.LeastBoxes.{least_same, least_joined_if_any}

-- a rectangle is the least box round its points
pub rect_least : (H : PointModel → Type 0) (r : RectModel) → IsRect r → ((p : PointModel) → HasPoint r p ↔ H p) → IsLeastBox H r
rect_least H r proper points = record {
  wide = let wide = proper.wide in grind (arith, ints);
  high = let high = proper.high in grind (arith, ints);
  around = λ p h. (points p).1 h;
  least = λ other holds p has. holds p ((points p).0 has);
}

module _ (X : Type 0) (P : X → PointModel → Type 0) where
  of_first : (xs : List X) (x : X) (p : PointModel) → (IsOfSome X P xs p ⊎ P x p) → IsOfSome X P (xs ++ x ∷ []) p
  of_first xs x p (inl has) = record { one = has.one; there = Contains-append_left xs (x ∷ []) has.one has.there; has = has.has }
  of_first xs x p (inr has) = record { one = x; there = Contains-push xs x; has = has }

  of_either : (xs : List X) (x : X) (p : PointModel) → IsOfSome X P (xs ++ x ∷ []) p → (IsOfSome X P xs p ⊎ P x p)
  of_either xs x p has = by (Contains-push_cases xs x has.one has.there) where
    by : (Contains xs has.one ⊎ (x ≡ has.one)) → (IsOfSome X P xs p ⊎ P x p)
    by (inl there) = inl (record { one = has.one; there = there; has = has.has })
    by (inr same) = inr (subst (λ (one : X). P one p) (sym same) has.has)

  pub one_more : (xs : List X) (i : ℕ) (x : X) (a b : Option RectModel) → i < length xs → x ≡ get_or xs i x → IsLeastBoxIfAny (IsOfSome X P (take i xs)) a
      → IsLeastBoxIfAny (P x) b → IsLeastBoxIfAny (IsOfSome X P (take (i + 1) xs)) (joined_if_any a b)
  one_more xs i x a b less is before one =
      let more : take (i + 1) xs ≡ take i xs ++ x ∷ [] = subst (λ (y : X). take (i + 1) xs ≡ take i xs ++ y ∷ []) (sym is) (take_more xs i x less) in
      rw more
      (least_same _ _ (of_first (take i xs) x) (of_either (take i xs) x) (joined_if_any a b)
      (least_joined_if_any (IsOfSome X P (take i xs)) (P x) a b before one))

  -- the same of what is read there, whatever is read behind the end
  pub next_one : (xs : List X) (i : ℕ) (d : X) (a b : Option RectModel) → i < length xs → IsLeastBoxIfAny (IsOfSome X P (take i xs)) a
      → IsLeastBoxIfAny (P (get_or xs i d)) b → IsLeastBoxIfAny (IsOfSome X P (take (i + 1) xs)) (joined_if_any a b)
  next_one xs i d a b less before one =
      rw (take_more xs i d less)
      (least_same _ _ (of_first (take i xs) (get_or xs i d)) (of_either (take i xs) (get_or xs i d)) (joined_if_any a b)
      (least_joined_if_any (IsOfSome X P (take i xs)) (P (get_or xs i d)) a b before one))

  pub all_taken : (xs : List X) (i : ℕ) (a : Option RectModel) → length xs ≤ i → IsLeastBoxIfAny (IsOfSome X P (take i xs)) a
      → IsLeastBoxIfAny (IsOfSome X P xs) a
  all_taken xs i a past least = subst (λ (ys : List X). IsLeastBoxIfAny (IsOfSome X P ys) a) (take_all i xs past) least
