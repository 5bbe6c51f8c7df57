-- Sites by their edges along x: how many begin or end to the left of an x.
use Rattle.std.proofs.Common.{◌≡◌, ◌↔◌, ℕ, ◌+◌, ◌*◌, ◌/◌, ◌<◌, ◌≤◌, ℤ, pos, ◌+ℤ◌, ◌*ℤ◌, ◌<ℤ◌, ◌≤ℤ◌, inl, inr, arith}
use Rattle.std.specs.Int.{div_ceil}
use Rattle.std.proofs.Math.IntN.{pos-*ℤ-pos}
use Rattle.std.proofs.Math.Nat.{le-div_iff_mul-le, mul-le-mul_right}
use Rattle.std.proofs.lemmas.Bool.{cases_lt}
use Rattle.std.proofs.lemmas.Grind.{div_ceil_times}
use Rattle.std.proofs.lemmas.Int.{ints, by_lt_z}
use Rattle.leg_lemmas.proofs.Naturals.{product_more}
use Rattle.leg_legal_sites.specs.Steps.SiteEdges.{IsBeyond}

-- where the left edge of a site lies, from that of the first one
pub edge_is : (width : ℤ) (n : ℕ) → width ≡ pos n → (k : ℕ) → pos k *ℤ width ≡ pos (k * n)
edge_is width n is k = rw is (pos-*ℤ-pos k n)

-- of sites of width n, those that begin before d
module _ (d n : ℕ) (some : 0 < n) where
  begun_before : (k : ℕ) → k < div_ceil d n → k * n < d
  begun_before k below = omega (arith, mul-le-mul_right {m = k + 1} {n = div_ceil d n} n (omega (arith, below)), product_more k n, (div_ceil_times d n some).1)

  before_begun : (k : ℕ) → k * n < d → k < div_ceil d n
  before_begun k left =
      elim (cases_lt k (div_ceil d n)) [
        | inl low ↦ low
        | inr high ↦ absurd (omega (arith, left, mul-le-mul_right n high, (div_ceil_times d n some).0))
      ]

module _ (left x width : ℤ) (d n : ℕ) (is : width ≡ pos n) (some : 0 < n) where
  -- what begins or ends to the left of x does so within the distance
  begins_within : (k : ℕ) → IsBeyond left x d → k * n < d ↔ ((left +ℤ pos k *ℤ width) <ℤ x)
  begins_within k far =
      by_lt_z left x
      (λ (h : left <ℤ x).
      let at : x ≡ left +ℤ pos d = far.right h in (
        λ before. rw (edge_is width n is k) (omega (arith, ints, before, at)),
        λ before. let here = rw (edge_is width n is k) at before in omega (arith, ints, here, at),
      ))
      (λ (h : x ≤ℤ left).
      let at : d ≡ 0 = far.none h in (
        λ before. absurd (omega (arith, before, at)),
        λ before. let here = rw (edge_is width n is k) at before in absurd (omega (arith, ints, here, h)),
      ))

  ends_within : (k : ℕ) → IsBeyond left x d → (k + 1) * n ≤ d ↔ ((left +ℤ pos (k + 1) *ℤ width) ≤ℤ x)
  ends_within k far =
      by_lt_z left x
      (λ (h : left <ℤ x).
      let at : x ≡ left +ℤ pos d = far.right h in (
        λ by. rw (edge_is width n is (k + 1)) (omega (arith, ints, by, at)),
        λ by. let here = rw (edge_is width n is (k + 1)) at by in omega (arith, ints, here, at),
      ))
      (λ (h : x ≤ℤ left).
      let at : d ≡ 0 = far.none h in (
        λ by. absurd (omega (arith, by, at, product_more k n, some)),
        λ by. let here = rw (edge_is width n is (k + 1)) at by in absurd (omega (arith, ints, here, h, product_more k n, some)),
      ))

  -- so many sites begin to the left of x
  pub sites_begin : IsBeyond left x d → (k : ℕ) → k < div_ceil d n ↔ ((left +ℤ pos k *ℤ width) <ℤ x)
  sites_begin far k = (λ below. (begins_within k far).0 (begun_before d n some k below), λ before. before_begun d n some k ((begins_within k far).1 before))

  -- so many end at x or to the left of it
  pub sites_end : IsBeyond left x d → (k : ℕ) → k < d / n ↔ ((left +ℤ pos (k + 1) *ℤ width) ≤ℤ x)
  sites_end far k = (
    λ below. (ends_within k far).0 ((le-div_iff_mul-le some).0 (omega (arith, below))),
    λ by. let last : k + 1 ≤ d / n = (le-div_iff_mul-le some).1 ((ends_within k far).1 by) in omega (arith, last),
  )
