-- Elements of a list by their numbers, in a list in which one is another, and in one that has grown at its end.
use Rattle.std.proofs.Common.{◌≡◌, ◌-◌, List, [], ◌∷◌, ◌++◌, length, get_or, All, AllPairs, Contains, refl, ◌∙◌, arith}
use Rattle.std.proofs.lemmas.List.{length-append, get_or_append_left, get_or-append_right}

module _ {X : Type 0} where
  -- elements in order are in order without the last one
  pub pairs_before : (R : X → X → Type 0) (xs : List X) (x : X) → AllPairs R (xs ++ x ∷ []) → AllPairs R xs
  pairs_before R xs x pairs i j d below within =
      let first : get_or (xs ++ x ∷ []) i d ≡ get_or xs i d = get_or_append_left xs (x ∷ []) d i (omega arith) in
      let second : get_or (xs ++ x ∷ []) j d ≡ get_or xs j d = get_or_append_left xs (x ∷ []) d j within in
      rw (first, second) at (pairs i j d below (omega (arith, length-append xs (x ∷ []))))

  -- and each of them stands before the last one
  pub pairs_with_last : (R : X → X → Type 0) (xs : List X) (x y : X) → AllPairs R (xs ++ x ∷ []) → Contains xs y → R y x
  pairs_with_last R xs x y pairs has =
      let first : get_or (xs ++ x ∷ []) has.0 y ≡ get_or xs has.0 y = get_or_append_left xs (x ∷ []) y has.0 has.1 in
      let is : get_or (xs ++ x ∷ []) has.0 y ≡ y = first ∙ has.2 in
      let zero_off : length xs - length xs ≡ 0 = omega arith in
      let last : get_or (xs ++ x ∷ []) (length xs) y ≡ x = get_or-append_right xs (x ∷ []) (length xs) (length xs) y refl (omega arith) ∙ rw zero_off refl in
      rw (is, last) at (pairs has.0 (length xs) y has.1 (omega (arith, length-append xs (x ∷ []))))

  -- what holds of all holds of those before the last one
  pub all_before : (P : X → Type 0) (xs : List X) (x : X) → All P (xs ++ x ∷ []) → All P xs
  all_before P xs x each k d within =
      let is : get_or (xs ++ x ∷ []) k d ≡ get_or xs k d = get_or_append_left xs (x ∷ []) d k within in
      rw is at (each k d (omega (arith, length-append xs (x ∷ []))))
