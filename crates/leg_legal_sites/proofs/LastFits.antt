-- The first of so many consecutive free sites, sought from the right.
use Rattle.std.proofs.Common.{◌≡◌, ℕ, ◌+◌, ◌-◌, ◌<◌, ◌≤◌, min, List, None, Some, slice_get, get_or, inl, inr, sym, ap, ◌∙◌, arith}
use Rattle.std.proofs.lemmas.Bool.{cases_lt, cases_eq}
use Rattle.std.proofs.lemmas.Option.{same_Some, slice_get_within, slice_get-get_or}
use Rattle.leg_legal_sites.specs.declared.stretch.Stretch.{Stretch}
use Rattle.leg_legal_sites.specs.Steps.Stretches.{AreFreeStretches}
use Rattle.leg_legal_sites.specs.Steps.Nearest.{FitsUpTo, IsLast}
use Rattle.leg_legal_sites.specs.Steps.TakeSites.{IsFirstEndBeyond, IsFirstStartBeyond}
use Rattle.leg_legal_sites.proofs.OneStretch.{apart_at, long_at, LieIn, one_stretch, free_in}

-- the stretch that ends beyond a site begins by it, or it and those after it begin beyond
module _ (free : List Stretch) (are : AreFreeStretches free) (site next : ℕ) (is : IsFirstEndBeyond free site next) where
  begun_before : (i : ℕ) (s : Stretch) → i < next → slice_get free i ≡ Some s → s.from ≤ site
  begun_before i s early there =
      let upto = is.before i s early there in
      let long = long_at free are i s there in
      omega (arith, upto, long)

  pub begun_here : (s : Stretch) → slice_get free next ≡ Some s → s.from ≤ site → IsFirstStartBeyond free site (next + 1)
  begun_here s at begins = record {
    within = let within = slice_get_within free next s at in omega (arith, within);
    before = λ i t below there. elim (cases_eq i next) [
      | inl same ↦
          let one : t ≡ s = same_Some t s (sym there ∙ ap (slice_get free) same ∙ at) in
          let from : t.from ≡ s.from = ap (λ (s : Stretch). s.from) one in
          omega (arith, from, begins)
      | inr differ ↦ begun_before i t (omega (arith, below, differ)) there
    ];
    beyond = λ i t late there.
        let ends = is.beyond next s (omega arith) at in
        let apart = apart_at free are next i s t at there (omega (arith, late)) in
        omega (arith, ends, apart);
  }

  pub begun_none : ((s : Stretch) → slice_get free next ≡ Some s → site < s.from) → IsFirstStartBeyond free site next
  begun_none beyond = record {
    within = is.within;
    before = begun_before;
    beyond = λ i t late there. elim (cases_eq i next) [
      | inl same ↦ beyond t (ap (slice_get free) (sym same) ∙ there)
      | inr differ ↦
          let within = slice_get_within free i t there in
          let s : Stretch = get_or free next t in
          let at : slice_get free next ≡ Some s = slice_get-get_or free next t (omega (arith, late, within)) in
          let ends = beyond s at in
          let long = long_at free are next s at in
          let apart = apart_at free are next i s t at there (omega (arith, late, differ)) in
          omega (arith, ends, long, apart)
    ];
  }

-- what fits up to the most lies in a stretch before this number
abbrev pub IsPassedDown : List Stretch → ℕ → ℕ → ℕ → Type 0
IsPassedDown free many most i =
    (first number : ℕ) → first ≤ most → LieIn free many first number → number < i

pub passed_down_none : (free : List Stretch) (many most i : ℕ) → IsFirstStartBeyond free most i → IsPassedDown free many most i
passed_down_none free many most i begun first number upto lie =
    elim (cases_lt number i) [
      | inl early ↦ early
      | inr late ↦
          let beyond = begun.beyond number lie.stretch late lie.there in
          let above = lie.above in
          absurd (omega arith)
    ]

-- a stretch that is too short is passed
pub passed_down_more : (free : List Stretch) (many most i : ℕ) (s : Stretch) → slice_get free i ≡ Some s → s.end - s.from < many
    → IsPassedDown free many most (i + 1) → IsPassedDown free many most i
passed_down_more free many most i s at short passed first number upto lie =
    let before = passed first number upto lie in
    elim (cases_eq number i) [
      | inl same ↦
          let one : lie.stretch ≡ s = same_Some lie.stretch s (sym lie.there ∙ ap (slice_get free) same ∙ at) in
          let from : lie.stretch.from ≡ s.from = ap (λ t. t.from) one in
          let end : lie.stretch.end ≡ s.end = ap (λ t. t.end) one in
          let left = lie.above in
          let right = lie.below in
          absurd (omega arith)
      | inr differ ↦ omega arith
    ]

-- one that is long enough has the last
pub last_found : (free : List Stretch) (many most i : ℕ) (s : Stretch) → AreFreeStretches free → 1 ≤ many → slice_get free i ≡ Some s → s.from ≤ most
    → many ≤ s.end - s.from → IsPassedDown free many most (i + 1) → IsLast (FitsUpTo free many most) (Some (min most (s.end - many)))
last_found free many most i s are some at begins long passed = (
  record {
    sites = free_in free many (min most (s.end - many)) i (record { stretch = s; there = at; above = omega arith; below = omega arith });
    upto = omega arith;
  },
  λ k fits.
      let most_k = fits.upto in
      let found = one_stretch free many k are some fits.sites in
      let lie = found.1 in
      let right = lie.below in
      let before = passed k found.0 fits.upto lie in
      elim (cases_eq found.0 i) [
        | inl same ↦
            let one : lie.stretch ≡ s = same_Some lie.stretch s (sym lie.there ∙ ap (slice_get free) same ∙ at) in
            let end : lie.stretch.end ≡ s.end = ap (λ t. t.end) one in
            omega arith
        | inr differ ↦
            let apart = apart_at free are found.0 i lie.stretch s lie.there at (omega arith) in
            omega arith
      ],
)

pub last_none : (free : List Stretch) (many most : ℕ) → AreFreeStretches free → 1 ≤ many → IsPassedDown free many most 0 → IsLast (FitsUpTo free many most) None
last_none free many most are some passed k fits =
    let found = one_stretch free many k are some fits.sites in
    let before = passed k found.0 fits.upto found.1 in
    omega arith
