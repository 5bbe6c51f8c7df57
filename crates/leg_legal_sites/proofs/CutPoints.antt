-- Where the stretches lie that sites are taken from.
use Rattle.std.proofs.Common.{◌≡◌, ℕ, ◌+◌, ◌<◌, ◌≤◌, true, false, List, length, Some, slice_get, inl, inr, sym, ap, ◌∙◌, arith}
use Rattle.std.specs.Prelude.{nat_le}
use Rattle.std.specs.List.Sorted.{IsPartitionPoint}
use Rattle.std.proofs.lemmas.Bool.{cases_eq, leb-true, leb-false}
use Rattle.std.proofs.lemmas.Option.{same_Some, slice_get_within, get_or_from_slice_get}
use Rattle.leg_legal_sites.specs.declared.stretch.Stretch.{Stretch}
use Rattle.leg_legal_sites.specs.Steps.Stretches.{AreFreeStretches}
use Rattle.leg_legal_sites.specs.Steps.TakeSites.{IsFirstEndBeyond, IsCutAt}
use Rattle.leg_legal_sites.proofs.OneStretch.{apart_at, long_at}

pub beyond_from_point : (free : List Stretch) (site first : ℕ) → first ≤ length free
    → IsPartitionPoint (λ s. nat_le s.end site ≡ true) (λ s. nat_le s.end site ≡ false) free first → IsFirstEndBeyond free site first
beyond_from_point free site first within ends = record {
  within = within;
  before = λ i s early there.
      let test = ends.0 i s (let below = slice_get_within free i s there in omega (arith, below)) early in
      leb-true s.end site (rw (get_or_from_slice_get free i s s there) at test);
  beyond = λ i s late there.
      let test = ends.1 i s late (slice_get_within free i s there) in
      leb-false s.end site (rw (get_or_from_slice_get free i s s there) at test);
}

-- the last stretch, which begins by the site and ends beyond it
pub beyond_at_last : (free : List Stretch) (site last : ℕ) (s : Stretch) → AreFreeStretches free → last + 1 ≡ length free → slice_get free last ≡ Some s
    → s.from ≤ site → site < s.end → IsFirstEndBeyond free site last
beyond_at_last free site last s are count at begins ends = record {
  within = omega (arith, count);
  before = λ i t early there. let apart = apart_at free are i last t s there at early in omega (arith, apart, begins);
  beyond = λ i t late there.
      let below = slice_get_within free i t there in
      let same : i ≡ last = omega (arith, below, late, count) in
      let one : t ≡ s = same_Some t s (sym there ∙ ap (slice_get free) same ∙ at) in
      let end : t.end ≡ s.end = ap (λ (s : Stretch). s.end) one in
      omega (arith, end, ends);
}

-- the stretches before this one begin before the end of the sites
abbrev pub DoBegin : List Stretch → ℕ → ℕ → Type 0
DoBegin free end i = (n : ℕ) (s : Stretch) → n < i → slice_get free n ≡ Some s → s.from < end

module _ (free : List Stretch) (are : AreFreeStretches free) (from end first : ℕ) (beyond : IsFirstEndBeyond free from first) (some : from < end) where
  pub begun_before : DoBegin free end first
  begun_before n s early there =
      let before = beyond.before n s early there in
      let long = long_at free are n s there in
      omega (arith, before, long, some)

  pub begun_more : (i : ℕ) (s : Stretch) → slice_get free i ≡ Some s → s.from < end → DoBegin free end i → DoBegin free end (i + 1)
  begun_more i s at begins so_far n t below there = elim (cases_eq n i) [
    | inl same ↦
        let one : t ≡ s = same_Some t s (sym there ∙ ap (slice_get free) same ∙ at) in
        let begin : t.from ≡ s.from = ap (λ (s : Stretch). s.from) one in
        omega (arith, begin, begins)
    | inr differ ↦ so_far n t (omega (arith, below, differ)) there
  ]

  pub cut_at_first : (i : ℕ) (s : Stretch) → slice_get free i ≡ Some s → end ≤ s.from → DoBegin free end i → IsCutAt free from end first i
  cut_at_first i s at begins so_far = record {
    before = beyond.before;
    beyond = beyond.beyond;
    begun = so_far;
    after = λ n t late there. elim (cases_eq n i) [
      | inl same ↦
          let one : t ≡ s = same_Some t s (sym there ∙ ap (slice_get free) same ∙ at) in
          let begin : t.from ≡ s.from = ap (λ (s : Stretch). s.from) one in
          omega (arith, begin, begins)
      | inr differ ↦
          let apart = apart_at free are i n s t at there (omega (arith, late, differ)) in
          let long = long_at free are i s at in
          omega (arith, apart, long, begins)
    ];
  }

  pub cut_at_end : (i : ℕ) → length free ≤ i → DoBegin free end i → IsCutAt free from end first (length free)
  cut_at_end i all so_far = record {
    before = beyond.before;
    beyond = beyond.beyond;
    begun = λ n s below there. so_far n s (omega (arith, below, all)) there;
    after = λ n s late there. let below = slice_get_within free n s there in absurd (omega (arith, below, late));
  }
