-- The numbers from one on: one more of them, which they are, and that they rise.
use Rattle.std.proofs.Common.{◌≡◌, ℕ, ◌+◌, ◌<◌, ◌≤◌, ◌-◌, [], ◌∷◌, ◌++◌, slice_get, AllPairs, Contains, Some, sym, ap, ◌∙◌, arith}
use Rattle.std.specs.List.{range_with_len}
use Rattle.std.proofs.lemmas.List.{map-id}
use Rattle.std.proofs.lemmas.List.FromFn.{length-range_with_len, get_or-range_with_len, map-range_with_len_more}
use Rattle.std.proofs.lemmas.Option.{slice_get_within, same_Some}
use Rattle.leg_lemmas.proofs.Places.{counted}

pub range_more : (first n number : ℕ) → first + n ≡ number → range_with_len first (n + 1) ≡ range_with_len first n ++ number ∷ []
range_more first n number is =
    sym (map-id (range_with_len first (n + 1))) ∙ map-range_with_len_more (λ (k : ℕ). k) first n number is
    ∙ ap (λ ks. ks ++ number ∷ []) (map-id (range_with_len first n))

module _ (first n : ℕ) where
  pub in_range : (k : ℕ) → first ≤ k → k < first + n → Contains (range_with_len first n) k
  in_range k low high =
      let at = get_or-range_with_len first n (k - first) k (omega (arith, low, high)) in
      (k - first, omega (arith, length-range_with_len first n, low, high), omega (arith, at, low))

  pub range_within : (k : ℕ) → Contains (range_with_len first n) k → (first ≤ k) × (k < first + n)
  range_within k has =
      let within : has.0 < n = omega (arith, has.1, length-range_with_len first n) in
      let is : first + has.0 ≡ k = sym (get_or-range_with_len first n has.0 k within) ∙ has.2 in
      (omega (arith, is), omega (arith, is, within))

  pub range_rises : AllPairs (λ j k. j < k) (range_with_len first n)
  range_rises i j d below within =
      let less : j < n = omega (arith, within, length-range_with_len first n) in
      let lower = get_or-range_with_len first n i d (omega (arith, below, less)) in
      let upper = get_or-range_with_len first n j d less in
      omega (arith, lower, upper, below)

-- what stands at a place of the first n numbers is this place
pub number_is_place : (n k j : ℕ) → slice_get (range_with_len 0 n) k ≡ Some j → (k < n) × (j ≡ k)
number_is_place n k j at =
    let less : k < n = omega (arith, slice_get_within (range_with_len 0 n) k j at, length-range_with_len 0 n) in
    (less, same_Some j k (sym at ∙ counted n k less))
