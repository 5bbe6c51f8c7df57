-- The list of the pairs of a list that pass a test, and its length.
use Rattle.std.proofs.Common.{◌≡◌, ℕ, zero, suc, ◌+◌, ◌<◌, Bool, true, IsTrue, cond, List, [], ◌∷◌, ◌++◌, length, map, count_by, Some, slice_get, All, AllPairs, Contains, inl, inr, refl, ap, ◌∙◌, arith}
use Rattle.std.proofs.lemmas.Bool.{cases_Bool}
use Rattle.std.proofs.lemmas.List.{length-map, length-append}
use Rattle.std.proofs.lemmas.List.Elements.{All-nil, All-cons, All-append, All-map, All-weaker, Contains-append_left, Contains-append_right}
use Rattle.std.proofs.lemmas.List.Kept.{AllPairs-cons}
use Rattle.std.proofs.lemmas.List.Sums.{sum_by-cons}
use Rattle.std.proofs.lemmas.Option.{same_Some, none-some}
use Rattle.leg_lemmas.proofs.Contents.{Contains-here, Contains-there, Contains-map}
use Rattle.leg_lemmas.proofs.RisingLists.{AllPairs-nil, AllPairs-append_by, AllPairs-map}
use Rattle.leg_sweep.specs.Pairs.{Before, ArePairs}
use Rattle.leg_geom.specs.Pairs.{IsPair}
use Rattle.leg_sweep.specs.Counts.{count_pairs}
use Rattle.leg_sweep.proofs.Unique.{ArePairs-unique}

-- the places whose elements pass, in rising order
abbrev places : {X : Type 0} → (X → Bool) → List X → List ℕ
places p [] = []
places p (x ∷ xs) = cond (p x) (zero ∷ map suc (places p xs)) (map suc (places p xs))

-- an element passes and has this place
record PassesAt {X : Type 0} (p : X → Bool) (xs : List X) (j : ℕ) : Type 0 where
  element : X
  there : slice_get xs j ≡ Some element
  passes : p element ≡ true

module _ {X : Type 0} (p : X → Bool) where
  places_count : (xs : List X) → length (places p xs) ≡ count_by p xs
  places_count [] = refl
  places_count (x ∷ xs) =
      let rest : length (map suc (places p xs)) ≡ count_by p xs = length-map (places p xs) suc ∙ places_count xs in
      let split : count_by p (x ∷ xs) ≡ cond (p x) 1 0 + count_by p xs = sum_by-cons (λ y. cond (p y) 1 0) x xs in
      elim (cases_Bool (p x)) [
        | inl passed ↦ let one = rw passed at split in rw (passed, one) (omega (arith, rest))
        | inr failed ↦ let none = rw failed at split in rw (failed, none) (omega (arith, rest))
      ]

  places_rise : (xs : List X) → AllPairs (λ i j. i < j) (places p xs)
  places_rise [] = AllPairs-nil (λ i j. i < j)
  places_rise (x ∷ xs) =
      let rest : AllPairs (λ i j. i < j) (map suc (places p xs)) =
      AllPairs-map (λ i j. i < j) (λ i j. i < j) suc (λ i j less. omega arith) (places p xs) (places_rise xs) in
      let above : All (λ j. zero < j) (map suc (places p xs)) = All-map (λ j. zero < j) suc (places p xs) (λ k d within. omega arith) in
      elim (cases_Bool (p x)) [
        | inl passed ↦ rw passed (AllPairs-cons (λ i j. i < j) zero (map suc (places p xs)) above rest)
        | inr failed ↦ rw failed rest
      ]

  places_pass : (xs : List X) → All (PassesAt p xs) (places p xs)
  places_pass [] = All-nil (PassesAt p [])
  places_pass (x ∷ xs) =
      let rest : All (PassesAt p (x ∷ xs)) (map suc (places p xs)) =
      All-map (PassesAt p (x ∷ xs)) suc (places p xs)
      (All-weaker (PassesAt p xs) (λ j. PassesAt p (x ∷ xs) (suc j)) (λ j h. record { element = h.element; there = h.there; passes = h.passes }) (places p xs)
      (places_pass xs)) in
      elim (cases_Bool (p x)) [
        | inl passed ↦ rw passed (All-cons (PassesAt p (x ∷ xs)) zero (map suc (places p xs)) (record { element = x; there = refl; passes = passed }) rest)
        | inr failed ↦ rw failed rest
      ]

  places_all : (xs : List X) (j : ℕ) → PassesAt p xs j → Contains (places p xs) j
  places_all [] j h = absurd (none-some h.element h.there)
  places_all (x ∷ xs) zero h =
      let same : x ≡ h.element = same_Some x h.element h.there in
      let passed : p x ≡ true = rw same h.passes in
      rw passed (Contains-here zero (map suc (places p xs)))
  places_all (x ∷ xs) (suc j) h =
      let rest : Contains (map suc (places p xs)) (suc j) =
      Contains-map suc (places p xs) j (places_all xs j (record { element = h.element; there = h.there; passes = h.passes })) in
      elim (cases_Bool (p x)) [
        | inl passed ↦ rw passed (Contains-there zero (map suc (places p xs)) (suc j) rest)
        | inr failed ↦ rw failed rest
      ]

-- the pairs that pass, in increasing order
abbrev pairs_of : {X : Type 0} → (X → X → Bool) → List X → List (ℕ × ℕ)
pairs_of test [] = []
pairs_of test (x ∷ xs) = map (λ j. (zero, suc j)) (places (test x) xs) ++ map (λ p. (suc p.0, suc p.1)) (pairs_of test xs)

module _ {X : Type 0} (test : X → X → Bool) where
  pairs_of_count : (xs : List X) → length (pairs_of test xs) ≡ count_pairs test xs
  pairs_of_count [] = refl
  pairs_of_count (x ∷ xs) =
      let to_first : ℕ → ℕ × ℕ = λ j. (zero, suc j) in
      let to_later : ℕ × ℕ → ℕ × ℕ = λ p. (suc p.0, suc p.1) in
      let first : List (ℕ × ℕ) = map to_first (places (test x) xs) in
      let later : List (ℕ × ℕ) = map to_later (pairs_of test xs) in
      omega (
        arith,
        length-append first later,
        length-map (places (test x) xs) to_first,
        length-map (pairs_of test xs) to_later,
        places_count (test x) xs,
        pairs_of_count xs,
      )

  pairs_of_rise : (xs : List X) → AllPairs Before (pairs_of test xs)
  pairs_of_rise [] = AllPairs-nil Before
  pairs_of_rise (x ∷ xs) =
      let found = places (test x) xs in
      AllPairs-append_by Before (λ p. p.0 ≡ zero) (λ p. zero < p.0)
      (λ p q low high. record { first = omega (arith, low); second = λ same. absurd (omega (arith, low, high, same)) })
      (map (λ j. (zero, suc j)) found) (map (λ p. (suc p.0, suc p.1)) (pairs_of test xs))
      (All-map (λ p. p.0 ≡ zero) (λ j. (zero, suc j)) found (λ k d within. refl))
      (All-map (λ p. zero < p.0) (λ p. (suc p.0, suc p.1)) (pairs_of test xs) (λ k d within. omega arith))
      (AllPairs-map (λ i j. i < j) Before (λ j. (zero, suc j)) (λ i j less. record { first = omega arith; second = λ same. omega arith }) found
      (places_rise (test x) xs))
      (AllPairs-map Before Before (λ p. (suc p.0, suc p.1))
      (λ p q b. record { first = omega (arith, b.first); second = λ same. let even : p.0 ≡ q.0 = omega (arith, same) in omega (arith, b.second even) })
      (pairs_of test xs) (pairs_of_rise xs))

  pairs_of_each : (xs : List X) → All (IsPair (λ a b. IsTrue (test a b)) xs) (pairs_of test xs)
  pairs_of_each [] = All-nil (IsPair (λ a b. IsTrue (test a b)) [])
  pairs_of_each (x ∷ xs) =
      let is_one = IsPair (λ a b. IsTrue (test a b)) (x ∷ xs) in
      All-append is_one (map (λ j. (zero, suc j)) (places (test x) xs)) (map (λ p. (suc p.0, suc p.1)) (pairs_of test xs))
      (All-map is_one (λ j. (zero, suc j)) (places (test x) xs)
      (All-weaker (PassesAt (test x) xs) (λ j. is_one (zero, suc j))
      (λ j h. record { a = x; b = h.element; a_at = refl; b_at = h.there; in_order = omega arith; holds = h.passes }) (places (test x) xs)
      (places_pass (test x) xs)))
      (All-map is_one (λ p. (suc p.0, suc p.1)) (pairs_of test xs)
      (All-weaker (IsPair (λ a b. IsTrue (test a b)) xs) (λ p. is_one (suc p.0, suc p.1))
      (λ p h. record { a = h.a; b = h.b; a_at = h.a_at; b_at = h.b_at; in_order = omega (arith, h.in_order); holds = h.holds }) (pairs_of test xs)
      (pairs_of_each xs)))

  pairs_of_all : (xs : List X) (p : ℕ × ℕ) → IsPair (λ a b. IsTrue (test a b)) xs p → Contains (pairs_of test xs) p
  pairs_of_all [] p h = absurd (none-some h.a h.a_at)
  pairs_of_all (x ∷ xs) (a, zero) h = absurd (omega (arith, h.in_order))
  pairs_of_all (x ∷ xs) (zero, suc b) h =
      let same : x ≡ h.a = same_Some x h.a h.a_at in
      let passes : test x h.b ≡ true = rw same h.holds in
      Contains-append_left (map (λ j. (zero, suc j)) (places (test x) xs)) (map (λ p. (suc p.0, suc p.1)) (pairs_of test xs)) (zero, suc b)
      (Contains-map (λ j. (zero, suc j)) (places (test x) xs) b (places_all (test x) xs b (record { element = h.b; there = h.b_at; passes = passes })))
  pairs_of_all (x ∷ xs) (suc a, suc b) h =
      Contains-append_right (map (λ j. (zero, suc j)) (places (test x) xs)) (map (λ p. (suc p.0, suc p.1)) (pairs_of test xs)) (suc a, suc b)
      (Contains-map (λ p. (suc p.0, suc p.1)) (pairs_of test xs) (a, b)
      (pairs_of_all xs (a, b) (record { a = h.a; b = h.b; a_at = h.a_at; b_at = h.b_at; in_order = omega (arith, h.in_order); holds = h.holds })))

  -- whatever list has exactly these pairs is as long as the count
  pub count_is_length : (xs : List X) (found : List (ℕ × ℕ)) → ArePairs (λ a b. IsTrue (test a b)) xs found → length found ≡ count_pairs test xs
  count_is_length xs found are =
      let listed : ArePairs (λ a b. IsTrue (test a b)) xs (pairs_of test xs) =
      record { increasing = pairs_of_rise xs; each = pairs_of_each xs; all = pairs_of_all xs } in
      let same = ArePairs-unique (λ a b. IsTrue (test a b)) xs found (pairs_of test xs) are listed in
      ap length same ∙ pairs_of_count xs
