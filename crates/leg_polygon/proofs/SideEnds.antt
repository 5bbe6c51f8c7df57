-- The ends of a walk's sides: those on a line or below it, and the sides that go through the row on the line.
use Rattle.std.proofs.Common.{◌≡◌, ℕ, ℤ, ◌<ℤ◌, ◌≤ℤ◌, ◌&&◌, Bool, true, false, not, List, [], ◌∷◌, ◌++◌, length, get_or, map, flat_map, inl, inr, refl, sym, ap, ◌∙◌, arith}
use Rattle.std.specs.Prelude.{int_lt, int_le}
use Rattle.std.specs.Ordering.{int_cmp, int_eq, is_lt}
use Rattle.std.specs.List.{AllWithin, filter}
use Rattle.std.specs.List.Sorted.{IsSortedByKey, IsPermutation, IsPartitionedBy, IsPartitionPoint}
use Rattle.std.proofs.lemmas.Bool.{cases_order}
use Rattle.std.proofs.lemmas.Cmp.{int_cmp_total}
use Rattle.std.proofs.lemmas.Int.{ints}
use Rattle.std.proofs.lemmas.List.MinMax.{ranks_by}
use Rattle.std.proofs.lemmas.List.Sorted.{sorted_far}
use Rattle.leg_lemmas.proofs.Integers.{le_from_test, le_test}
use Rattle.leg_geom.specs.Plane.{PointModel}
use Rattle.leg_polygon.specs.Inside.{is_odd, differ, crosses}
use Rattle.leg_polygon.specs.Slab.{edges, runs}
use Rattle.leg_polygon.specs.Steps.Sweep.{ends, DoClimb, is_upto, odd_upto}
use Rattle.leg_polygon.proofs.Parity.{is_odd-nil, is_odd-cons, is_odd-permutation, differ_twice}
use Rattle.leg_polygon.proofs.ParityLists.{is_odd-filter, is_odd-map}
use Rattle.leg_polygon.proofs.NumberFolds.{odd_rises, is_odd-odd}
use Rattle.leg_polygon.proofs.OddNumbers.{same_odd}
use Rattle.leg_polygon.proofs.WalkEdges.{edges_rise, odd_edges}

-- points in the order of their heights
pub sorted_climb : (points : List PointModel) → IsSortedByKey (λ (p : PointModel). p.y) int_cmp points → DoClimb points
sorted_climb points sorted i j d before within =
    not_above _ _
    (sorted_far (λ (a b : PointModel). is_lt (int_cmp a.y b.y)) (ranks_by int_cmp_total (λ (p : PointModel). p.y)) points sorted i j d (omega (arith, before))
    within)
  where
    not_above : (a b : ℤ) → is_lt (int_cmp b a) ≡ false → a ≤ℤ b
    not_above a b test = grind (arith, ints)

pub climb_partitioned : (points : List PointModel) (line : ℤ) → DoClimb points → IsPartitionedBy (λ p. int_le p.y line) points
climb_partitioned points line climb i j d upto within test = elim (cases_order i j) [
  | inl same ↦ rw same test
  | inr apart ↦ elim apart [
    | inl before ↦
        let rises = climb i j d before within in
        let below = le_from_test (get_or points j d).y line test in
        le_test (get_or points i d).y line (omega (arith, ints, rises, below))
    | inr behind ↦ absurd (omega (arith, upto, behind))
  ]
]

pub points_upto : (points : List PointModel) (line : ℤ) (place : ℕ)
    → IsPartitionPoint (λ p. int_le p.y line ≡ true) (λ p. int_le p.y line ≡ false) points place → AllWithin (λ p. p.y ≤ℤ line) points 0 place
points_upto points line place point k d low high = le_from_test _ line (point.0 k d low high)

pub points_above : (points : List PointModel) (line : ℤ) (place : ℕ)
    → IsPartitionPoint (λ p. int_le p.y line ≡ true) (λ p. int_le p.y line ≡ false) points place
    → AllWithin (λ p. line <ℤ p.y) points place (length points)
points_above points line place point k d low high = above _ (point.1 k d low high) where
  above : (y : ℤ) → int_le y line ≡ false → line <ℤ y
  above y test = grind (arith, ints)

upto_not_above : (line y : ℤ) → int_le y line ≡ not (int_lt line y)
upto_not_above line y = grind (arith, ints)

-- a side's two ends count just where one of them is on the line or below it, and the other is above
both_ends : (a b e rest : Bool) → differ (not a && e) (differ (not b && e) rest) ≡ differ (differ a b && e) rest
both_ends true true e rest = refl
both_ends true false e rest = refl
both_ends false true e rest = refl
both_ends false false e rest = differ_twice e rest

module _ (line : ℤ) (test : ℤ → Bool) where
  side_parity : (side : PointModel × PointModel) (rest : Bool)
      → differ (int_le side.0.y line && test side.0.x) (differ (int_le side.1.y line && test side.0.x) rest) ≡ differ (crosses line side && test side.0.x) rest
  side_parity side rest =
      rw (upto_not_above line side.0.y, upto_not_above line side.1.y) (both_ends (int_lt line side.0.y) (int_lt line side.1.y) (test side.0.x) rest)

  ends_parity : (walk : List (PointModel × PointModel))
      → is_odd (λ p. is_upto line p && test p.x) (flat_map ends walk) ≡ is_odd (λ side. crosses line side && test side.0.x) walk
  ends_parity [] =
      is_odd-nil (λ (p : PointModel). is_upto line p && test p.x)
      ∙ sym (is_odd-nil (λ (side : PointModel × PointModel). crosses line side && test side.0.x))
  ends_parity (side ∷ walk) =
      let passes : PointModel → Bool = λ p. is_upto line p && test p.x in
      let to : PointModel = record { x = side.0.x; y = side.1.y } in
      is_odd-cons passes side.0 (to ∷ flat_map ends walk)
      ∙ ap (differ (passes side.0)) (is_odd-cons passes to (flat_map ends walk))
      ∙ side_parity side (is_odd passes (flat_map ends walk))
      ∙ ap (differ (crosses line side && test side.0.x)) (ends_parity walk)
      ∙ sym (is_odd-cons (λ side. crosses line side && test side.0.x) side walk)

module _ (walk : List (PointModel × PointModel)) (points : List PointModel) (moved : IsPermutation (flat_map ends walk) points) where
  upto_parity : (line : ℤ) (test : ℤ → Bool) → is_odd test (odd_upto points line) ≡ is_odd test (edges walk line)
  upto_parity line test =
      is_odd-odd test (map (λ p. p.x) (filter (is_upto line) points))
      ∙ is_odd-map test (λ (p : PointModel). p.x) (filter (is_upto line) points)
      ∙ is_odd-filter (λ (p : PointModel). test p.x) (is_upto line) points
      ∙ is_odd-permutation (λ p. is_upto line p && test p.x) (flat_map ends walk) points moved
      ∙ ends_parity line test walk
      ∙ sym (odd_edges walk line test)

  upto_edges : (line : ℤ) → odd_upto points line ≡ edges walk line
  upto_edges line =
      same_odd (odd_upto points line) (edges walk line) (odd_rises (map (λ p. p.x) (filter (is_upto line) points))) (edges_rise walk line)
      (λ z. upto_parity line (int_eq z))

  -- the rectangles of the bands are those of the walk
  pub rows_of_walk : (bands : List (ℤ × ℤ))
      → flat_map (λ band. runs band (odd_upto points band.0)) bands ≡ flat_map (λ band. runs band (edges walk band.0)) bands
  rows_of_walk [] = refl
  rows_of_walk (band ∷ bands) =
      ap (λ es. runs band es ++ flat_map (λ band. runs band (odd_upto points band.0)) bands) (upto_edges band.0)
      ∙ ap (λ rs. runs band (edges walk band.0) ++ rs) (rows_of_walk bands)
