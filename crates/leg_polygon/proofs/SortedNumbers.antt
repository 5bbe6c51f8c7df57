-- Numbers that are sorted, each once.
use Rattle.std.proofs.Common.{◌≡◌, ◌<◌, ℤ, ◌<ℤ◌, Less, List, [], AllPairs, Contains, length, refl, arith}
use Rattle.std.specs.Cmp.{IsEquivalence}
use Rattle.std.specs.Ordering.{int_cmp, int_eq}
use Rattle.std.specs.List.{dedup}
use Rattle.std.specs.List.Sorted.{IsSorted, IsPermutation}
use Rattle.std.specs.List.Retain.{IsFiltered, DiffersFromLast}
use Rattle.std.proofs.lemmas.Int.{ints}
use Rattle.std.proofs.lemmas.Cmp.{int_cmp_total}
use Rattle.std.proofs.lemmas.List.Filters.{dedup_is}
use Rattle.std.proofs.lemmas.List.Kept.{Contains-dedup, Contains-from_dedup, IsStrictlySortedBy-dedup}
use Rattle.std.proofs.lemmas.List.Sorted.{Contains-permutation, IsPermutation-sym}
use Rattle.std.proofs.lemmas.Map.Keys.{Less-from_sorted}
use Rattle.leg_lemmas.proofs.Integers.{eq_from_test}

int_equivalence : IsEquivalence int_eq
int_equivalence = record {
  refl = λ x. grind (arith, ints);
  symm = λ x y. grind (arith, ints);
  congr = λ x y z same. rw (eq_from_test x y same) refl;
}

less_is : (x y : ℤ) → int_cmp x y ≡ Less → x <ℤ y
less_is x y h = grind (arith, ints)

-- what is left of a list once it is sorted and repeated numbers are taken away
pub rises : (xs ys : List ℤ) → IsSorted int_cmp xs → IsFiltered (DiffersFromLast int_eq) [] xs ys → AllPairs (λ a b. a <ℤ b) ys
rises xs ys sorted kept i j d before within =
    let is : ys ≡ dedup int_eq xs = dedup_is int_eq xs ys kept in
    let strictly = IsStrictlySortedBy-dedup int_cmp_total {E = int_eq} (λ x y. refl) xs sorted in
    let long : j < length (dedup int_eq xs) = rw (← is) within in
    less_is _ _ (rw is (Less-from_sorted int_cmp (dedup int_eq xs) i j d strictly before long))

pub keeps : (xs sorted ys : List ℤ) → IsPermutation xs sorted → IsFiltered (DiffersFromLast int_eq) [] sorted ys → (z : ℤ) → Contains xs z → Contains ys z
keeps xs sorted ys moved kept z there =
    rw (dedup_is int_eq sorted ys kept) (Contains-dedup int_equivalence eq_from_test sorted z (Contains-permutation xs sorted z moved there))

pub came_from : (xs sorted ys : List ℤ) → IsPermutation xs sorted → IsFiltered (DiffersFromLast int_eq) [] sorted ys → (z : ℤ) → Contains ys z → Contains xs z
came_from xs sorted ys moved kept z there =
    let there' : Contains (dedup int_eq sorted) z = rw (← (dedup_is int_eq sorted ys kept)) there in
    Contains-permutation sorted xs z (IsPermutation-sym xs sorted moved) (Contains-from_dedup int_eq sorted z there')
