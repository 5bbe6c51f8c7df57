-- Pairs of numbers that are sorted, each once.
use Rattle.std.proofs.Common.{◌≡◌, ℕ, ◌<◌, ◌==◌, ◌&&◌, Bool, true, Less, List, [], AllPairs, Contains, length, refl, arith}
use Rattle.std.specs.Cmp.{IsEquivalence}
use Rattle.std.specs.List.{dedup}
use Rattle.std.specs.List.Sorted.{IsSorted, IsPermutation}
use Rattle.std.specs.List.Retain.{IsFiltered, DiffersFromLast}
use Rattle.std.proofs.lemmas.Bool.Decides.{nat_tests}
use Rattle.std.proofs.lemmas.List.Filters.{dedup_is}
use Rattle.std.proofs.lemmas.List.Kept.{Contains-dedup, Contains-from_dedup, IsStrictlySortedBy-dedup}
use Rattle.std.proofs.lemmas.List.Sorted.{Contains-permutation, IsPermutation-sym}
use Rattle.std.proofs.lemmas.Map.Keys.{Less-from_sorted}
use Rattle.leg_sweep.specs.Pairs.{Before}
use Rattle.leg_sweep.specs.Steps.Sweep.{pair_cmp}
use Rattle.leg_sweep.proofs.Apart.{pair_cmp_total}

abbrev pub pair_eq : ℕ × ℕ → ℕ × ℕ → Bool
pair_eq p q = (p.0 == q.0) && (p.1 == q.1)

pair_same : (p q : ℕ × ℕ) → pair_eq p q ≡ true → p ≡ q
pair_same (a, b) (c, d) h = grind (arith, nat_tests)

pair_equivalence : IsEquivalence pair_eq
pair_equivalence = record {
  refl = λ (a, b). grind (arith, nat_tests);
  symm = λ (a, b) (c, d). grind (arith, nat_tests);
  congr = λ x y z same. rw (pair_same x y same) refl;
}

less_is : (p q : ℕ × ℕ) → pair_cmp p q ≡ Less → Before p q
less_is (a, b) (c, d) h = record { first = grind (arith, nat_tests); second = λ same. grind (arith, nat_tests) }

-- what is left of a list once it is sorted and repeated pairs are taken away
pub rises : (xs ys : List (ℕ × ℕ)) → IsSorted pair_cmp xs → IsFiltered (DiffersFromLast pair_eq) [] xs ys → AllPairs Before ys
rises xs ys sorted kept i j d before within =
    let is : ys ≡ dedup pair_eq xs = dedup_is pair_eq xs ys kept in
    let strictly = IsStrictlySortedBy-dedup pair_cmp_total {E = pair_eq} (λ (a, b) (c, d). grind (arith, nat_tests)) xs sorted in
    let long : j < length (dedup pair_eq xs) = rw (← is) within in
    less_is _ _ (rw is (Less-from_sorted pair_cmp (dedup pair_eq xs) i j d strictly before long))

pub keeps : (xs sorted ys : List (ℕ × ℕ)) → IsPermutation xs sorted → IsFiltered (DiffersFromLast pair_eq) [] sorted ys → (p : ℕ × ℕ) → Contains xs p
    → Contains ys p
keeps xs sorted ys moved kept p there =
    rw (dedup_is pair_eq sorted ys kept) (Contains-dedup pair_equivalence pair_same sorted p (Contains-permutation xs sorted p moved there))

pub came_from : (xs sorted ys : List (ℕ × ℕ)) → IsPermutation xs sorted → IsFiltered (DiffersFromLast pair_eq) [] sorted ys → (p : ℕ × ℕ) → Contains ys p
    → Contains xs p
came_from xs sorted ys moved kept p there =
    let there' : Contains (dedup pair_eq sorted) p = rw (← (dedup_is pair_eq sorted ys kept)) there in
    Contains-permutation sorted xs p (IsPermutation-sym xs sorted moved) (Contains-from_dedup pair_eq sorted p there')
