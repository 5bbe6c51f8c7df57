-- A single band, in which all items stand.
use Rattle.std.proofs.Common.{◌≡◌, ℕ, zero, suc, ◌≤◌, true, List, [], ◌∷◌, length, replicate, sum_by, refl, sym, ap, subst, inl, inr, arith}
use Rattle.std.proofs.lemmas.Bool.{cases_lt, and_parts}
use Rattle.std.proofs.lemmas.List.{get_or-replicate, get_or_past, length-replicate}
use Rattle.std.proofs.lemmas.List.Sums.{sum_by-cons}
use Rattle.leg_geom.specs.Plane.{RectModel}
use Rattle.leg_geom.specs.Gap.{x_gap, y_gap}
use Rattle.leg_sweep.specs.declared.band.BandRange.{BandRange}
use Rattle.leg_sweep.specs.Counts.{near_along_x, near_along_both, count_pairs}
use Rattle.leg_sweep.specs.Steps.Bands.{empty_band, waiting_at, range_at, entries_at, reach_at, share_band, near_in_band, near_both_in_band, AreBandRanges, AreEmpty}
use Rattle.leg_sweep.specs.Steps.Sweep.{test_at}
use Rattle.leg_sweep.proofs.Counts.{count_pairs-le}

-- the ranges of so many items
abbrev pub lowest : BandRange
lowest = record { first = 0; last = 0 }

pub lowest_at : (n x : ℕ) → range_at (replicate n lowest) x ≡ lowest
lowest_at n x =
    elim (cases_lt x n) [
      | inl within ↦ get_or-replicate n x lowest lowest within
      | inr past ↦ get_or_past (replicate n lowest) x lowest (omega (arith, past, length-replicate n lowest))
    ]

first_is : (n x : ℕ) → (range_at (replicate n lowest) x).first ≡ 0
first_is n x = ap (λ (s : BandRange). s.first) (lowest_at n x)

last_is : (n x : ℕ) → (range_at (replicate n lowest) x).last ≡ 0
last_is n x = ap (λ (s : BandRange). s.last) (lowest_at n x)

-- their reach
pub reach_one : (n x reach : ℕ) → reach_at (replicate n lowest) (empty_band reach ∷ []) x ≡ reach
reach_one n x reach = ap (λ (s : BandRange). (waiting_at (empty_band reach ∷ []) s.first).reach) (lowest_at n x)

module _ {Item : Type 0} (Holds : Item → Item → Type 0) (rect_of : Item → RectModel) (items : List Item) (reach : ℕ)
    (near : (a b : Item) → Holds a b → (x_gap (rect_of a) (rect_of b) ≤ reach) × (y_gap (rect_of a) (rect_of b) ≤ reach)) where
  pub one_range : AreBandRanges Holds rect_of items (replicate (length items) lowest) (empty_band reach ∷ [])
  one_range =
      let n : ℕ = length items in
      record {
        count = length-replicate n lowest;
        upward = λ x within. omega (arith, first_is n x);
        there = λ x within. omega (arith, last_is n x);
        one_reach = λ x k within low high.
            let k_is : k ≡ 0 = omega (arith, high, last_is n x) in
            rw k_is (sym (reach_one n x reach));
        meet = λ p pair. (omega (arith, first_is n p.0), omega (arith, first_is n p.1));
        in_reach =
            λ x y a b a_at b_at holds. subst (λ r. (x_gap (rect_of a) (rect_of b) ≤ r) × (y_gap (rect_of a) (rect_of b) ≤ r)) (sym (reach_one n x reach))
            (near a b holds);
      }

-- all stand in it once
pub one_entry : (n : ℕ) (order : List ℕ) → sum_by (entries_at (replicate n lowest)) order ≡ length order
one_entry n [] = refl
one_entry n (x ∷ xs) = omega (arith, one_entry n xs, sum_by-cons (entries_at (replicate n lowest)) x xs, first_is n x, last_is n x)

-- pairs that stand in it and are near
pub one_near : (rects : List RectModel) (n reach : ℕ) (order : List ℕ)
    → count_pairs (near_in_band rects (replicate n lowest) (empty_band reach ∷ [])) order ≤ count_pairs (test_at (near_along_x reach) rects) order
one_near rects n reach order =
    count_pairs-le (near_in_band rects (replicate n lowest) (empty_band reach ∷ [])) (test_at (near_along_x reach) rects) order
    (λ x y in_x in_y passes.
    let split = and_parts (share_band (replicate n lowest) x y) _ passes in
    subst (λ r. test_at (near_along_x r) rects x y ≡ true) (reach_one n x reach) split.1)

pub one_near_both : (rects : List RectModel) (n reach : ℕ) (order : List ℕ)
    → count_pairs (near_both_in_band rects (replicate n lowest) (empty_band reach ∷ [])) order ≤ count_pairs (test_at (near_along_both reach) rects) order
one_near_both rects n reach order =
    count_pairs-le (near_both_in_band rects (replicate n lowest) (empty_band reach ∷ [])) (test_at (near_along_both reach) rects) order
    (λ x y in_x in_y passes.
    let split = and_parts (share_band (replicate n lowest) x y) _ passes in
    subst (λ r. test_at (near_along_both r) rects x y ≡ true) (reach_one n x reach) split.1)

-- no item waits in it
pub one_empty : (reach : ℕ) → AreEmpty (empty_band reach ∷ [])
one_empty reach zero = refl
one_empty reach (suc k) = refl
