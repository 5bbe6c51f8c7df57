-- Pairs of candidates stand for the pairs of shapes.
use Rattle.std.proofs.Common.{◌≡◌, ℕ, ◌+◌, ◌<◌, List, [], ◌∷◌, ◌++◌, map, length, Some, slice_get, get_or, take, Contains, inl, inr, refl, sym, ap, ◌∙◌, arith}
use Rattle.std.proofs.lemmas.Bool.{cases_lt, cases_eq}
use Rattle.std.proofs.lemmas.List.{take_more, map-append}
use Rattle.std.proofs.lemmas.List.Elements.{All-map, All-weaker}
use Rattle.std.proofs.lemmas.Option.{same_Some, slice_get_within, get_or_from_slice_get}
use Rattle.leg_lemmas.proofs.Contents.{Contains-map}
use Rattle.leg_lemmas.proofs.Places.{all_at, place_of_contained}
use Rattle.leg_lemmas.proofs.RisingLists.{AllPairs-map_where}
use Rattle.leg_geom.specs.Pairs.{IsPair}
use Rattle.leg_sweep.specs.Pairs.{Before, ArePairs}
use Rattle.leg_rules.specs.declared.shape.Shape.{Shape}
use Rattle.leg_drc.specs.declared.candidate.Candidate.{Candidate}
use Rattle.leg_drc.specs.declared.candidate.Owners.{Owners}
use Rattle.leg_drc.specs.Steps.Candidates.{IsCandidate, HasLowerNumber, AreCandidates, numbers_in}

-- one more pair
pub numbers_more : (candidates : List Candidate) (pairs : List (ℕ × ℕ)) (k : ℕ) (first second : Candidate) → k < length pairs
    → slice_get candidates (get_or pairs k (0, 0)).0 ≡ Some first → slice_get candidates (get_or pairs k (0, 0)).1 ≡ Some second
    → map (numbers_in candidates) (take k pairs) ++ (first.number, second.number) ∷ [] ≡ map (numbers_in candidates) (take (k + 1) pairs)
numbers_more candidates pairs k first second within first_at second_at =
    let next : numbers_in candidates (get_or pairs k (0, 0)) ≡ (first.number, second.number) = rw (first_at, second_at) refl in
    rw (take_more pairs k (0, 0), map-append, next) refl

module _ (owners : Owners) (reaches : List ℕ) (shapes : List Shape) (candidates : List Candidate)
    (are : AreCandidates owners reaches shapes (length shapes) candidates) where
  -- the shape of the candidate at a place
  shape_at : (k : ℕ) (candidate : Candidate) → slice_get candidates k ≡ Some candidate → slice_get shapes candidate.number ≡ Some candidate.shape
  shape_at k candidate at = all_at (λ c. slice_get shapes c.number ≡ Some c.shape) candidates k candidate are.each at

  -- candidates stand in the order of their numbers
  rises : (i j : ℕ) (a b : Candidate) → slice_get candidates i ≡ Some a → slice_get candidates j ≡ Some b → i < j → a.number < b.number
  rises i j a b a_at b_at less =
      let a_is : get_or candidates i a ≡ a = get_or_from_slice_get candidates i a a a_at in
      let b_is : get_or candidates j a ≡ b = get_or_from_slice_get candidates j b a b_at in
      let rise : HasLowerNumber (get_or candidates i a) (get_or candidates j a) = are.increasing i j a less (slice_get_within candidates j b b_at) in
      rw (a_is, b_is) at rise

  same_at : (i j : ℕ) (a b : Candidate) → slice_get candidates i ≡ Some a → slice_get candidates j ≡ Some b → i ≡ j → a.number ≡ b.number
  same_at i j a b a_at b_at same =
      let alike : a ≡ b = same_Some a b (sym a_at ∙ ap (slice_get candidates) same ∙ b_at) in
      ap (λ (c : Candidate). c.number) alike

  -- so a lower number stands at a lower place
  lower_first : (i j : ℕ) (a b : Candidate) → slice_get candidates i ≡ Some a → slice_get candidates j ≡ Some b → a.number < b.number → i < j
  lower_first i j a b a_at b_at less =
      elim (cases_lt i j) [
        | inl first ↦ first
        | inr later ↦ elim (cases_eq i j) [
          | inl same ↦ absurd (omega (arith, less, same_at i j a b a_at b_at same))
          | inr apart ↦ absurd (omega (arith, less, rises j i b a b_at a_at (omega arith)))
        ]
      ]

  -- the candidate of this number
  record IsAt (k : ℕ) (shape : Shape) : Type 0 where
    place : ℕ
    there : slice_get candidates place ≡ Some (record { number = k; shape = shape })

  place_of : (k : ℕ) (shape : Shape) → slice_get shapes k ≡ Some shape → IsCandidate owners reaches shape → IsAt k shape
  place_of k shape at is =
      let has = are.all k shape (slice_get_within shapes k shape at) at is in
      let found = place_of_contained candidates (record { number = k; shape = shape }) has in
      record { place = found.k; there = found.there }

  module _ (Holds : Shape → Shape → Type 0) (symmetric : (a b : Shape) → Holds a b → Holds b a)
      (candidate : (a b : Shape) → Holds a b → IsCandidate owners reaches a) where
    abbrev HoldsOf : Candidate → Candidate → Type 0
    HoldsOf a b = Holds a.shape b.shape

    is_pair : (p : ℕ × ℕ) → IsPair HoldsOf candidates p → IsPair Holds shapes (numbers_in candidates p)
    is_pair p pair =
        rw (pair.a_at, pair.b_at) (record {
          a = pair.a.shape;
          b = pair.b.shape;
          a_at = shape_at p.0 pair.a pair.a_at;
          b_at = shape_at p.1 pair.b pair.b_at;
          in_order = rises p.0 p.1 pair.a pair.b pair.a_at pair.b_at pair.in_order;
          holds = pair.holds;
        })

    before : (p q : ℕ × ℕ) → IsPair HoldsOf candidates p → IsPair HoldsOf candidates q → Before p q → Before (numbers_in candidates p) (numbers_in candidates q)
    before p q of_p of_q less =
        rw (of_p.a_at, of_p.b_at, of_q.a_at, of_q.b_at) (record {
          first = elim (cases_lt p.0 q.0) [
            | inl lower ↦ omega (arith, rises p.0 q.0 of_p.a of_q.a of_p.a_at of_q.a_at lower)
            | inr other ↦ omega (arith, same_at p.0 q.0 of_p.a of_q.a of_p.a_at of_q.a_at (omega (arith, other, less.first)))
          ];
          second = λ equal. elim (cases_lt p.0 q.0) [
            | inl lower ↦ absurd (omega (arith, equal, rises p.0 q.0 of_p.a of_q.a of_p.a_at of_q.a_at lower))
            | inr other ↦ rises p.1 q.1 of_p.b of_q.b of_p.b_at of_q.b_at (less.second (omega (arith, other, less.first)))
          ];
        })

    found_in : (found : List (ℕ × ℕ)) → ArePairs HoldsOf candidates found → (p : ℕ × ℕ) → IsPair Holds shapes p → Contains (map (numbers_in candidates) found) p
    found_in found pairs p pair =
        let a = place_of p.0 pair.a pair.a_at (candidate pair.a pair.b pair.holds) in
        let b = place_of p.1 pair.b pair.b_at (candidate pair.b pair.a (symmetric pair.a pair.b pair.holds)) in
        let one : IsPair HoldsOf candidates (a.place, b.place) = record {
          a = record { number = p.0; shape = pair.a };
          b = record { number = p.1; shape = pair.b };
          a_at = a.there;
          b_at = b.there;
          in_order = lower_first a.place b.place _ _ a.there b.there pair.in_order;
          holds = pair.holds;
        } in
        let has = Contains-map (numbers_in candidates) found (a.place, b.place) (pairs.all (a.place, b.place) one) in
        rw (a.there, b.there) at has

    pub pairs_of_candidates : (found : List (ℕ × ℕ)) → ArePairs HoldsOf candidates found → ArePairs Holds shapes (map (numbers_in candidates) found)
    pairs_of_candidates found pairs = record {
      increasing = AllPairs-map_where Before Before (numbers_in candidates) (IsPair HoldsOf candidates) before found pairs.each pairs.increasing;
      each =
          All-map (IsPair Holds shapes) (numbers_in candidates) found
          (All-weaker (IsPair HoldsOf candidates) (λ p. IsPair Holds shapes (numbers_in candidates p)) is_pair found pairs.each);
      all = found_in found pairs;
    }
