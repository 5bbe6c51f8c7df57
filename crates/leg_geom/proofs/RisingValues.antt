-- Places of increasing numbers in a list.
use Rattle.std.proofs.Common.{◌≡◌, ℕ, ◌<◌, ◌≤◌, inl, inr, true, false, ℤ, ◌<ℤ◌, List, AllPairs, Some, length, get_or, slice_get, arith}
use Rattle.std.specs.Prelude.{int_lt, int_le}
use Rattle.std.specs.List.Sorted.{IsPartitionedBy, IsPartitionPoint}
use Rattle.std.proofs.lemmas.Bool.{cases_eq, cases_lt}
use Rattle.std.proofs.lemmas.Int.{ints}
use Rattle.std.proofs.lemmas.Option.{slice_get_within, get_or_from_slice_get}
use Rattle.leg_lemmas.proofs.Integers.{le_test, le_from_test, lt_from_test, lt_test, least_from_test}
use Rattle.leg_geom.specs.Line.{ArePlaces}

above_from_test : (a b : ℤ) → int_le a b ≡ false → b <ℤ a
above_from_test a b test = grind (arith, ints)

module _ (values : List ℤ) (rising : AllPairs (λ a b. a <ℤ b) values) where
  -- the values below one stand first, and so do those up to one
  pub below_first : (low : ℤ) → IsPartitionedBy (λ z. int_lt z low) values
  below_first low i j d upto within test = elim (cases_eq i j) [
    | inl same ↦ rw same test
    | inr differ ↦
        let below = lt_from_test (get_or values j d) low test in
        let more = rising i j d (omega arith) within in
        lt_test (get_or values i d) low (omega (arith, ints, below, more))
  ]

  pub upto_first : (high : ℤ) → IsPartitionedBy (λ z. int_le z high) values
  upto_first high i j d upto within test = elim (cases_eq i j) [
    | inl same ↦ rw same test
    | inr differ ↦
        let below = le_from_test (get_or values j d) high test in
        let more = rising i j d (omega arith) within in
        le_test (get_or values i d) high (omega (arith, ints, below, more))
  ]

-- places by both of these points
pub places_from_points : (values : List ℤ) (low high : ℤ) (first end : ℕ) → end ≤ length values
    → IsPartitionPoint (λ z. int_lt z low ≡ true) (λ z. int_lt z low ≡ false) values first
    → IsPartitionPoint (λ z. int_le z high ≡ true) (λ z. int_le z high ≡ false) values end → ArePlaces values low high first end
places_from_points values low high first end within below upto = record {
  within = within;
  low_in = λ k z there from. least_from_test z low (late_low k z there from);
  high_in = λ k z there before. le_from_test z high (early_high k z there before);
  first_in = λ k z there least. elim (cases_lt k first) [
    | inl early ↦ absurd (let less = lt_from_test z low (early_low k z there early) in omega (arith, ints, less, least))
    | inr late ↦ late
  ];
  end_in = λ k z there most. elim (cases_lt k end) [
    | inl early ↦ early
    | inr late ↦ absurd (let more = above_from_test z high (late_high k z there late) in omega (arith, ints, more, most))
  ];
} where
  early_low : (k : ℕ) (z : ℤ) → slice_get values k ≡ Some z → k < first → int_lt z low ≡ true
  early_low k z there early = rw (get_or_from_slice_get values k z z there) at (below.0 k z (omega arith) early)

  late_low : (k : ℕ) (z : ℤ) → slice_get values k ≡ Some z → first ≤ k → int_lt z low ≡ false
  late_low k z there late = rw (get_or_from_slice_get values k z z there) at (below.1 k z late (slice_get_within values k z there))

  early_high : (k : ℕ) (z : ℤ) → slice_get values k ≡ Some z → k < end → int_le z high ≡ true
  early_high k z there early = rw (get_or_from_slice_get values k z z there) at (upto.0 k z (omega arith) early)

  late_high : (k : ℕ) (z : ℤ) → slice_get values k ≡ Some z → end ≤ k → int_le z high ≡ false
  late_high k z there late = rw (get_or_from_slice_get values k z z there) at (upto.1 k z late (slice_get_within values k z there))
