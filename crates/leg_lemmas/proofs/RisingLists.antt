-- Lists that rise under an order.
use Rattle.std.proofs.Common.{◌≡◌, zero, suc, List, [], ◌∷◌, ◌++◌, map, All, AllPairs, Contains, inl, inr, refl, sym, arith}
use Rattle.std.proofs.lemmas.List.Elements.{All-append, All-contains, All-head, All-tail, All-map, All-weaker}
use Rattle.std.proofs.lemmas.List.Kept.{AllPairs-cons}
use Rattle.leg_lemmas.proofs.Contents.{Contains-nil, Contains-here, Contains-there, Contains-cons_cases}

module _ {X : Type 0} (R : X → X → Type 0) where
  pub AllPairs-nil : AllPairs R []
  AllPairs-nil i j d below within = absurd (omega arith)

  -- the first element stands in R to each later one
  pub AllPairs-head : (x : X) (xs : List X) → AllPairs R (x ∷ xs) → All (R x) xs
  AllPairs-head x xs rise k d within = rise zero (suc k) d (omega arith) (omega arith)

  pub AllPairs-tail : (x : X) (xs : List X) → AllPairs R (x ∷ xs) → AllPairs R xs
  AllPairs-tail x xs rise i j d below within = rise (suc i) (suc j) d (omega arith) (omega arith)

  -- two lists that rise, each element of the first below each of the second
  pub AllPairs-append : (xs ys : List X) → AllPairs R xs → AllPairs R ys → All (λ x. All (R x) ys) xs → AllPairs R (xs ++ ys)
  AllPairs-append [] ys first second between = second
  AllPairs-append (x ∷ xs) ys first second between =
      AllPairs-cons R x (xs ++ ys)
      (All-append (R x) xs ys (AllPairs-head x xs first) (All-head (λ y. All (R y) ys) x xs between))
      (AllPairs-append xs ys (AllPairs-tail x xs first) second (All-tail (λ y. All (R y) ys) x xs between))

  -- the same where two facts tell the elements of the lists apart
  pub AllPairs-append_by : (P Q : X → Type 0) → ((x y : X) → P x → Q y → R x y) → (xs ys : List X) → All P xs → All Q ys → AllPairs R xs → AllPairs R ys
      → AllPairs R (xs ++ ys)
  AllPairs-append_by P Q apart xs ys each_x each_y first second =
      AllPairs-append xs ys first second
      (All-weaker P (λ x. All (R x) ys) (λ x p. All-weaker Q (R x) (λ y q. apart x y p q) ys each_y) xs each_x)

module _ {X Y : Type 0} (R : X → X → Type 0) (S : Y → Y → Type 0) (f : X → Y) where
  -- a function that keeps the order keeps a list rising, where it does so for elements that P holds of
  pub AllPairs-map_where : (P : X → Type 0) → ((x y : X) → P x → P y → R x y → S (f x) (f y)) → (xs : List X) → All P xs → AllPairs R xs → AllPairs S (map f xs)
  AllPairs-map_where P keeps [] each rise = AllPairs-nil S
  AllPairs-map_where P keeps (x ∷ xs) each rise =
      let x_is : P x = All-head P x xs each in
      let rest : All P xs = All-tail P x xs each in
      let above : All (λ y. S (f x) (f y)) xs = λ k d within. keeps x _ x_is (rest k d within) (AllPairs-head R x xs rise k d within) in
      AllPairs-cons S (f x) (map f xs) (All-map (S (f x)) f xs above)
      (AllPairs-map_where P keeps xs rest (AllPairs-tail R x xs rise))

  -- the same for a function that always keeps it
  pub AllPairs-map : ((x y : X) → R x y → S (f x) (f y)) → (xs : List X) → AllPairs R xs → AllPairs S (map f xs)
  AllPairs-map keeps xs rise = AllPairs-map_where (λ _. Unit {0}) (λ x y _ _ r. keeps x y r) xs (λ _ _ _. tt) rise

module _ {X : Type 0} (Less : X → X → Type 0) (irreflexive : (x : X) → Less x x → ⊥) (transitive : (x y z : X) → Less x y → Less y z → Less x z) where
  -- of two lists that rise, and of which each contains the other's first element, the first elements are equal
  same_first : (x y : X) (xs ys : List X) → All (Less x) xs → All (Less y) ys → Contains (y ∷ ys) x → Contains (x ∷ xs) y → x ≡ y
  same_first x y xs ys above_x above_y has_x has_y =
      elim (Contains-cons_cases x xs y has_y) [
        | inl same ↦ same
        | inr y_later ↦ elim (Contains-cons_cases y ys x has_x) [
          | inl same ↦ sym same
          | inr x_later ↦ absurd (irreflexive x (transitive x y x (All-contains (Less x) xs y above_x y_later) (All-contains (Less y) ys x above_y x_later)))
        ]
      ]

  -- what stands behind the first element is not the first element
  later_in : (x : X) (xs ys : List X) → All (Less x) xs → ((z : X) → Contains (x ∷ xs) z → Contains (x ∷ ys) z) → (z : X) → Contains xs z → Contains ys z
  later_in x xs ys above into z c =
      elim (Contains-cons_cases x ys z (into z (Contains-there x xs z c))) [
        | inl same ↦ absurd (irreflexive x (let below : Less x z = All-contains (Less x) xs z above c in rw (← same) at below))
        | inr later ↦ later
      ]

  -- two lists that rise and contain the same elements are equal
  pub same_rising : (xs ys : List X) → AllPairs Less xs → AllPairs Less ys → ((x : X) → Contains xs x → Contains ys x)
      → ((x : X) → Contains ys x → Contains xs x) → xs ≡ ys
  same_rising [] [] rise_x rise_y into back = refl
  same_rising [] (y ∷ ys) rise_x rise_y into back = absurd (Contains-nil y (back y (Contains-here y ys)))
  same_rising (x ∷ xs) [] rise_x rise_y into back = absurd (Contains-nil x (into x (Contains-here x xs)))
  same_rising (x ∷ xs) (y ∷ ys) rise_x rise_y into back =
      let above_x : All (Less x) xs = AllPairs-head Less x xs rise_x in
      let above_y : All (Less y) ys = AllPairs-head Less y ys rise_y in
      let first : x ≡ y = same_first x y xs ys above_x above_y (into x (Contains-here x xs)) (back y (Contains-here y ys)) in
      let into_same : (z : X) → Contains (x ∷ xs) z → Contains (x ∷ ys) z = λ z c. rw first (into z c) in
      let back_same : (z : X) → Contains (y ∷ ys) z → Contains (y ∷ xs) z = λ z c. rw (← first) (back z c) in
      let rest : xs ≡ ys =
      same_rising xs ys (AllPairs-tail Less x xs rise_x) (AllPairs-tail Less y ys rise_y)
      (later_in x xs ys above_x into_same) (later_in y ys xs above_y back_same) in
      cc
