-- The first of so many consecutive free sites, sought from the left.
use Rattle.std.proofs.Common.{◌≡◌, ℕ, ◌+◌, ◌-◌, ◌<◌, ◌≤◌, max, List, None, Some, slice_get, length, get_or, inl, inr, sym, ap, ◌∙◌, arith}
use Rattle.std.specs.Prelude.{nat_le}
use Rattle.std.specs.List.Sorted.{IsPartitionedBy}
use Rattle.std.proofs.lemmas.Bool.{cases_lt, cases_eq, leb-true, le-leb}
use Rattle.std.proofs.lemmas.Option.{same_Some, slice_get_within}
use Rattle.leg_legal_sites.specs.declared.stretch.Stretch.{Stretch}
use Rattle.leg_legal_sites.specs.Steps.Stretches.{AreFreeStretches}
use Rattle.leg_legal_sites.specs.Steps.Nearest.{FitsFrom, IsFirstFit}
use Rattle.leg_legal_sites.specs.Steps.TakeSites.{IsFirstEndBeyond}
use Rattle.leg_legal_sites.proofs.OneStretch.{apart_at, LieIn, one_stretch, free_in}

-- the ends of stretches rise
pub ends_partitioned : (free : List Stretch) (least : ℕ) → AreFreeStretches free → IsPartitionedBy (λ s. nat_le s.end least) free
ends_partitioned free least are i j d order within test =
    elim (cases_eq i j) [
      | inl same ↦ rw same test
      | inr differ ↦
          let upto = leb-true (get_or free j d).end least test in
          let apart : (get_or free i d).end < (get_or free j d).from = are.apart i j d (omega arith) within in
          let long : (get_or free j d).from < (get_or free j d).end = are.long j d within in
          le-leb (get_or free i d).end least (omega arith)
    ]

-- what fits from the least on lies in a stretch of this number or a later one
abbrev pub IsPassed : List Stretch → ℕ → ℕ → ℕ → Type 0
IsPassed free many least i =
    (first number : ℕ) → least ≤ first → LieIn free many first number → i ≤ number

pub passed_none : (free : List Stretch) (many least i : ℕ) → 1 ≤ many → IsFirstEndBeyond free least i → IsPassed free many least i
passed_none free many least i some beyond first number above lie =
    elim (cases_lt number i) [
      | inl early ↦
          let upto = beyond.before number lie.stretch early lie.there in
          let below = lie.below in
          absurd (omega arith)
      | inr late ↦ late
    ]

-- a stretch that is too short is passed
pub passed_more : (free : List Stretch) (many least i : ℕ) (s : Stretch) → slice_get free i ≡ Some s → s.end - max s.from least < many
    → IsPassed free many least i → IsPassed free many least (i + 1)
passed_more free many least i s at short passed first number above lie =
    let upto = passed first number above lie in
    elim (cases_eq number i) [
      | inl same ↦
          let one : lie.stretch ≡ s = same_Some lie.stretch s (sym lie.there ∙ ap (slice_get free) same ∙ at) in
          let from : lie.stretch.from ≡ s.from = ap (λ t. t.from) one in
          let end : lie.stretch.end ≡ s.end = ap (λ t. t.end) one in
          let left = lie.above in
          let right = lie.below in
          absurd (omega arith)
      | inr differ ↦ omega arith
    ]

-- one that is long enough has the first
pub first_found : (free : List Stretch) (many least i : ℕ) (s : Stretch) → AreFreeStretches free → 1 ≤ many → slice_get free i ≡ Some s
    → many ≤ s.end - max s.from least → IsPassed free many least i → IsFirstFit (FitsFrom free many least) (Some (max s.from least))
first_found free many least i s are some at long passed = (
  record {
    sites = free_in free many (max s.from least) i (record { stretch = s; there = at; above = omega arith; below = omega arith });
    above = omega arith;
  },
  λ k fits.
      let least_k = fits.above in
      let found = one_stretch free many k are some fits.sites in
      let lie = found.1 in
      let left = lie.above in
      let upto = passed k found.0 fits.above lie in
      elim (cases_eq found.0 i) [
        | inl same ↦
            let one : lie.stretch ≡ s = same_Some lie.stretch s (sym lie.there ∙ ap (slice_get free) same ∙ at) in
            let from : lie.stretch.from ≡ s.from = ap (λ t. t.from) one in
            omega arith
        | inr differ ↦
            let apart = apart_at free are i found.0 s lie.stretch at lie.there (omega arith) in
            omega arith
      ],
)

pub first_none : (free : List Stretch) (many least i : ℕ) → AreFreeStretches free → 1 ≤ many → length free ≤ i → IsPassed free many least i
    → IsFirstFit (FitsFrom free many least) None
first_none free many least i are some end passed k fits =
    let found = one_stretch free many k are some fits.sites in
    let upto = passed k found.0 fits.above found.1 in
    let within = slice_get_within free found.0 found.1.stretch found.1.there in
    omega arith
