-- Consecutive free sites lie in one stretch.
use Rattle.std.proofs.Common.{◌≡◌, ℕ, ◌+◌, ◌<◌, ◌≤◌, List, Some, slice_get, get_or, inl, inr, sym, ap, ◌∙◌, arith}
use Rattle.std.proofs.lemmas.Bool.{cases_lt, cases_order}
use Rattle.std.proofs.lemmas.Option.{same_Some, slice_get_within, get_or_from_slice_get}
use Rattle.leg_legal_sites.specs.declared.stretch.Stretch.{Stretch}
use Rattle.leg_legal_sites.specs.Steps.Stretches.{IsFreeSite, AreFreeSites, AreFreeStretches}

pub apart_at : (free : List Stretch) → AreFreeStretches free → (i j : ℕ) (s t : Stretch) → slice_get free i ≡ Some s → slice_get free j ≡ Some t → i < j
    → s.end < t.from
apart_at free are i j s t at_i at_j order =
    let e = get_or_from_slice_get free i s s at_i in
    let f = get_or_from_slice_get free j t s at_j in
    let h : (get_or free i s).end < (get_or free j s).from = are.apart i j s order (slice_get_within free j t at_j) in
    rw (e, f) at h

pub long_at : (free : List Stretch) → AreFreeStretches free → (i : ℕ) (s : Stretch) → slice_get free i ≡ Some s → s.from < s.end
long_at free are i s at =
    let e = get_or_from_slice_get free i s s at in
    let h : (get_or free i s).from < (get_or free i s).end = are.long i s (slice_get_within free i s at) in
    rw e at h

-- no site lies in two stretches, and none lies where one ends
pub apart_from_end : (free : List Stretch) → AreFreeStretches free → (i : ℕ) (s : Stretch) → slice_get free i ≡ Some s → ¬ IsFreeSite free s.end
apart_from_end free are i s at next =
    elim (cases_order i next.number) [
      | inl same ↦
          let one : s ≡ next.stretch = same_Some s next.stretch (sym at ∙ ap (slice_get free) same ∙ next.there) in
          let end : s.end ≡ next.stretch.end = ap (λ t. t.end) one in
          omega (arith, next.below, end)
      | inr other ↦
          elim other [
            | inl before ↦ omega (arith, apart_at free are i next.number s next.stretch at next.there before, next.above)
            | inr after ↦
                omega (arith, apart_at free are next.number i next.stretch s next.there at after, next.below, long_at free are i s at)
          ]
    ]

-- so many sites from the first on lie in the stretch of this number
pub record LieIn (free : List Stretch) (many first number : ℕ) : Type 0 where
  pub stretch : Stretch
  pub there : slice_get free number ≡ Some stretch
  pub above : stretch.from ≤ first
  pub below : first + many ≤ stretch.end

pub one_stretch : (free : List Stretch) (many first : ℕ) → AreFreeStretches free → 1 ≤ many → AreFreeSites free many first
    → (number : ℕ) × LieIn free many first number
one_stretch free many first are some sites =
    let at = sites first (omega arith) (omega arith) in
    elim (cases_lt at.stretch.end (first + many)) [
      | inl short ↦
          let below = at.below in
          absurd (apart_from_end free are at.number at.stretch at.there (sites at.stretch.end (omega arith) short))
      | inr whole ↦
          (at.number, record { stretch = at.stretch; there = at.there; above = at.above; below = whole })
    ]

-- sites that lie in a stretch are free
pub free_in : (free : List Stretch) (many first number : ℕ) → LieIn free many first number → AreFreeSites free many first
free_in free many first number lie k above below =
    let from = lie.above in
    let end = lie.below in
    record { number = number; stretch = lie.stretch; there = lie.there; above = omega arith; below = omega arith }
