-- Lists whose elements differ from one another, in another order.
use Rattle.std.proofs.Common.{◌≡◌, ◌≢◌, ℕ, ◌<◌, true, false, List, length, get_or, eqb, AllPairs, IsPermutation, IsSorted, arith}
use Rattle.std.specs.Ordering.{is_lt, is_eq, eq_by_cmp}
use Rattle.std.specs.List.{range_with_len, IsDistinct}
use Rattle.std.specs.Cmp.{IsTotalOrder}
use Rattle.std.proofs.lemmas.Bool.{ne_eqb, eqb-false, false_from_ne_true}
use Rattle.std.proofs.lemmas.Bool.Decides.{nat_tests}
use Rattle.std.proofs.lemmas.Cmp.{nat_eq_equiv, nat_cmp_total, on_total, then_total, eq_by_cmp_equiv}
use Rattle.std.proofs.lemmas.List.FromFn.{length-range_with_len, get_or-range_with_len}
use Rattle.std.proofs.lemmas.List.Sorted.{ranks_by, sorted_far, All-permutation, Contains-permutation}
use Rattle.std.proofs.lemmas.Map.Keys.{IsDistinct-from_apart, apart_from_distinct, IsDistinct-IsPermutation}
use Rattle.leg_sweep.specs.Pairs.{Before, ArePairs, HasPairs}
use Rattle.leg_geom.specs.Pairs.{IsPair}
use Rattle.leg_sweep.specs.Steps.Sweep.{pair_cmp}

-- the numbers up to n in another order
pub numbers_apart : (n : ℕ) (order : List ℕ) → IsPermutation (range_with_len 0 n) order → (a b : ℕ) → a < b → b < length order
    → get_or order a 0 ≡ get_or order b 0 → ⊥
numbers_apart n order moved a b below within =
    let start : IsDistinct eqb (range_with_len 0 n) =
    IsDistinct-from_apart eqb (range_with_len 0 n) (λ i j d low high.
    let high_is : j < n = omega (arith, length-range_with_len 0 n, high) in
    ne_eqb _ _ (λ same. omega (arith, same, low, get_or-range_with_len 0 n i d (omega arith), get_or-range_with_len 0 n j d high_is))) in
    eqb-false _ _ (apart_from_distinct eqb order a b 0 (IsDistinct-IsPermutation eqb nat_eq_equiv.symm (range_with_len 0 n) order moved start) below within)

pub pair_cmp_total : IsTotalOrder pair_cmp
pair_cmp_total = then_total (on_total (λ (p : ℕ × ℕ). p.0) nat_cmp_total) (on_total (λ (p : ℕ × ℕ). p.1) nat_cmp_total)

same_pair : (p q : ℕ × ℕ) → is_eq (pair_cmp p q) ≡ true → p ≡ q
same_pair (a, b) (c, d) tied = grind (arith, nat_tests)

-- pairs that are not in falling order and differ are in rising order
rising_pair : (p q : ℕ × ℕ) → is_lt (pair_cmp q p) ≡ false → is_eq (pair_cmp p q) ≡ false → Before p q
rising_pair (a, b) (c, d) not_above apart = record { first = grind (arith, nat_tests); second = λ same. grind (arith, nat_tests) }

-- pairs that differ from one another, sorted
pub rising_from_sort : (found sorted : List (ℕ × ℕ)) → AllPairs (λ p q. p ≢ q) found → IsPermutation found sorted → IsSorted pair_cmp sorted
    → AllPairs Before sorted
rising_from_sort found sorted distinct moved up i j d below within =
    let start : IsDistinct (eq_by_cmp pair_cmp) found =
    IsDistinct-from_apart (eq_by_cmp pair_cmp) found (λ k l e low high.
    false_from_ne_true _ (λ tied. distinct k l e low high (same_pair _ _ tied))) in
    let apart = IsDistinct-IsPermutation (eq_by_cmp pair_cmp) (eq_by_cmp_equiv pair_cmp_total).symm found sorted moved start in
    rising_pair _ _
    (sorted_far (λ x y. is_lt (pair_cmp x y)) (ranks_by pair_cmp_total (λ x. x)) sorted up i j d (omega arith) within)
    (apart_from_distinct (eq_by_cmp pair_cmp) sorted i j d apart below within)

-- the pairs that were found, sorted
pub pairs_from_sort : {Item : Type 0} (Holds : Item → Item → Type 0) (items : List Item) (found sorted : List (ℕ × ℕ)) → HasPairs Holds items found
    → IsPermutation found sorted → IsSorted pair_cmp sorted → ArePairs Holds items sorted
pairs_from_sort Holds items found sorted has moved up = record {
  increasing = rising_from_sort found sorted has.distinct moved up;
  each = All-permutation (IsPair Holds items) found sorted moved has.each;
  all = λ p h. Contains-permutation found sorted p moved (has.all p h);
}
