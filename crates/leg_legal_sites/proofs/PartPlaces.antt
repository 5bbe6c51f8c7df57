-- Where in the parts of a row sites lie, and groups of parts.
use Rattle.std.proofs.Common.{◌≡◌, ℕ, ◌+◌, ◌-◌, ◌*◌, ◌<◌, ◌≤◌, ◌++◌, [], ◌∷◌, List, length, set, Some, slice_get, inl, inr, sym, ap, ◌∙◌, arith, length-set, length-append}
use Rattle.std.proofs.lemmas.Bool.{cases_lt, cases_eq}
use Rattle.std.proofs.lemmas.List.{append-nil}
use Rattle.std.proofs.lemmas.Option.{same_Some, none-some, slice_get_within}
use Rattle.leg_lemmas.proofs.Places.{last_or_before}
use Rattle.leg_legal_sites.specs.declared.stretch.Stretch.{Stretch}
use Rattle.leg_legal_sites.specs.declared.ends.Ends.{Ends}
use Rattle.leg_legal_sites.specs.declared.part_groups.TheConstants.{GROUP}
use Rattle.leg_legal_sites.specs.Steps.Stretches.{IsFreeSite, AreFreeSites}
use Rattle.leg_legal_sites.specs.Steps.Parts.{all_of, AreInRow, AreNoMoreThan, IsPartSpan, AreAllFewer, DoEndBy, DoBeginBeyond, LieBefore, LieBeyond, AreNoLonger, AreGroups, IsShort, HasFirst, HasLast, AreNoneFree, NoneFitsBefore, NoneFitsFrom}
use Rattle.leg_legal_sites.proofs.ListPlaces.{slice_get-set_same, slice_get-set_other}
use Rattle.leg_legal_sites.proofs.Parts.{in_part, from_part, one_part}

-- an only part has all stretches
pub all_of_one : (parts : List (List Stretch)) (p : List Stretch) → length parts ≡ 1 → slice_get parts 0 ≡ Some p → all_of parts ≡ p
all_of_one [] p one at = absurd (none-some p at)
all_of_one (q ∷ []) p one at = append-nil q ∙ same_Some q p at
all_of_one (q ∷ r ∷ ps) p one at = absurd (omega (arith, one))

-- a part of a list that is read twice
same_part : (parts : List (List Stretch)) (i n : ℕ) (p q : List Stretch) → slice_get parts i ≡ Some p → slice_get parts n ≡ Some q → n ≡ i → q ≡ p
same_part parts i n p q at_i at_n same = same_Some q p (sym at_n ∙ ap (slice_get parts) same ∙ at_i)

-- parts up to one that ends by a site, or from one that begins beyond it
module _ (parts : List (List Stretch)) (in_row : AreInRow parts) (i site : ℕ) (p : List Stretch) (at : slice_get parts i ≡ Some p) where
  pub before_more : DoEndBy p site → LieBefore parts (i + 1) site
  before_more ends n k q below there free = elim (cases_lt n i) [
    | inl earlier ↦
        let apart = in_row n i q p k ends.one earlier there at free ends.there in
        let one = ends.before ends.one ends.there in
        omega (arith, apart, one)
    | inr late ↦
        let same : n ≡ i = omega (arith, below, late) in
        let one = same_part parts i n p q at there same in
        ends.before k (rw one at free)
  ]

  pub beyond_less : DoBeginBeyond p site → LieBeyond parts i site
  beyond_less begins n k q from there free = elim (cases_eq n i) [
    | inl same ↦
        let one = same_part parts i n p q at there same in
        begins.beyond k (rw one at free)
    | inr differ ↦
        let apart = in_row i n p q begins.one k (omega (arith, from, differ)) at there begins.there free in
        let one = begins.beyond begins.one begins.there in
        omega (arith, apart, one)
  ]

-- how many sites are free side by side in some parts
module _ (parts : List (List Stretch)) where
  pub no_longer_more : (from i most here : ℕ) (p : List Stretch) → slice_get parts i ≡ Some p → AreNoMoreThan here p → AreNoLonger parts from i most
      → (joined : ℕ) → here ≤ joined → most ≤ joined → AreNoLonger parts from (i + 1) joined
  no_longer_more from i most here p at longest before joined more too n q above below there many first sites = elim (cases_lt n i) [
    | inl earlier ↦ let long = before n q above earlier there many first sites in omega (arith, long, too)
    | inr late ↦
        let same : n ≡ i = omega (arith, below, late) in
        let one = same_part parts i n p q at there same in
        let long = longest many first (rw one at sites) in
        omega (arith, long, more)
  ]

  pub no_longer_joined : (from mid end a b joined : ℕ) → AreNoLonger parts from mid a → AreNoLonger parts mid end b → a ≤ joined → b ≤ joined
      → AreNoLonger parts from end joined
  no_longer_joined from mid end a b joined first second more too n p above below there many start sites = elim (cases_lt n mid) [
    | inl early ↦ let long = first n p above early there many start sites in omega (arith, long, more)
    | inr late ↦ let long = second n p late below there many start sites in omega (arith, long, too)
  ]

  pub no_longer_raised : (from end most more : ℕ) → most ≤ more → AreNoLonger parts from end most → AreNoLonger parts from end more
  no_longer_raised from end most more upto longest n p above below there many first sites =
      let long = longest n p above below there many first sites in
      omega (arith, long, upto)

  pub no_longer_within : (from end less most : ℕ) → less ≤ end → AreNoLonger parts from end most → AreNoLonger parts from less most
  no_longer_within from end less most upto longest n p above below = longest n p above (omega (arith, below, upto))

  pub all_no_longer : AreInRow parts → (most : ℕ) → AreNoLonger parts 0 (length parts) most → AreNoMoreThan most (all_of parts)
  all_no_longer in_row most longest many first sites = elim (cases_eq many 0) [
    | inl none ↦ omega (arith, none)
    | inr some ↦
        let one = one_part parts in_row many first (omega (arith, some)) sites in
        longest one.number one.part (omega arith) (slice_get_within parts one.number one.part one.there) one.there many first one.sites
  ]

-- groups of parts
module _ (parts : List (List Stretch)) where
  pub group_more : (groups : List ℕ) (most : ℕ) → AreGroups parts groups → GROUP * length groups + GROUP ≤ length parts
      → AreNoLonger parts (GROUP * length groups) (GROUP * length groups + GROUP) most → AreGroups parts (groups ++ most ∷ [])
  group_more groups most are room longest = record {
    count = let one = length-append groups (most ∷ []) in omega (arith, one, room);
    each = λ group other there. elim (last_or_before groups most group other there) [
      | inl early ↦ are.each group other early
      | inr last ↦ rw (last.0, last.1) longest
    ];
  }

  pub group_set : (groups : List ℕ) (group most : ℕ) → AreGroups parts groups → AreNoLonger parts (GROUP * group) (GROUP * group + GROUP) most
      → AreGroups parts (set groups group most)
  group_set groups group most are longest = record {
    count = let same = length-set groups group most in let count = are.count in omega (arith, same, count);
    each = λ other value there. elim (cases_eq other group) [
      | inl same ↦ let one : value ≡ most = slice_get-set_same groups group other most value same there in rw (same, one) longest
      | inr differ ↦ are.each other value (slice_get-set_other groups group other most value differ there)
    ];
  }

  -- a run of so many sites doesn't fit in a group that is short
  none_in_short : (groups : List ℕ) (place many first n : ℕ) (p : List Stretch) → AreGroups parts groups → IsShort groups place many → place ≤ n
      → n < place + GROUP → slice_get parts n ≡ Some p → ¬ AreFreeSites p many first
  none_in_short groups place many first n p are short from below there sites =
      let begins = short.begins in
      let long =
      are.each short.group short.most short.there n p (omega (arith, begins, from)) (omega (arith, begins, below)) there many first sites in
      let fewer = short.fewer in
      omega (arith, long, fewer)

  pub pass_short : (groups : List ℕ) (place many least : ℕ) → AreGroups parts groups → IsShort groups place many
      → NoneFitsBefore parts many least place → NoneFitsBefore parts many least (place + GROUP)
  pass_short groups place many least are short none n first p below there fits = elim (cases_lt n place) [
    | inl early ↦ none n first p early there fits
    | inr late ↦ none_in_short groups place many first n p are short late below there fits.sites
  ]

  pub pass_short_down : (groups : List ℕ) (place many most : ℕ) → AreGroups parts groups → IsShort groups place many
      → NoneFitsFrom parts many most (place + GROUP) → NoneFitsFrom parts many most place
  pass_short_down groups place many most are short none n first p from there fits = elim (cases_lt n (place + GROUP)) [
    | inl early ↦ none_in_short groups place many first n p are short from early there fits.sites
    | inr late ↦ none n first p late there fits
  ]

-- fewer free sites are no longer
pub groups_fewer : (old new : List (List Stretch)) (groups : List ℕ) → length new ≡ length old → AreAllFewer old new → AreGroups old groups
    → AreGroups new groups
groups_fewer old new groups count fewer are = record {
  count = let room = are.count in omega (arith, room, count);
  each = λ group most there n q from below at many first sites.
      let was = fewer n q at in
      are.each group most there n was.0 from below was.1 many first (λ k above under. was.2 k (sites k above under));
}

-- the first and the last part that has a free site
module _ (parts : List (List Stretch)) (in_row : AreInRow parts) where
  pub none_free : AreNoneFree parts 0 (length parts) → (k : ℕ) → ¬ IsFreeSite (all_of parts) k
  none_free none k site =
      let at = in_part parts k site in
      none at.number k at.part (omega arith) (slice_get_within parts at.number at.part at.there) at.there at.site

  pub first_is : (i : ℕ) (p : List Stretch) (ends : Ends) → slice_get parts i ≡ Some p → AreNoneFree parts 0 i → IsPartSpan p ends
      → HasFirst (all_of parts) (Some ends)
  first_is i p ends at none span = (
    from_part parts ends.from i p at span.first,
    λ k site.
        let has = in_part parts k site in
        elim (cases_lt has.number i) [
          | inl early ↦ absurd (none has.number k has.part (omega arith) early has.there has.site)
          | inr late ↦ elim (cases_eq has.number i) [
            | inl same ↦
                let one = same_part parts i has.number p has.part at has.there same in
                let here = has.site in
                span.above k (rw one at here)
            | inr differ ↦
                let apart = in_row i has.number p has.part ends.from k (omega (arith, late, differ)) at has.there span.first has.site in
                omega (arith, apart)
          ]
        ],
  )

  pub last_is : (i : ℕ) (p : List Stretch) (ends : Ends) → slice_get parts i ≡ Some p → AreNoneFree parts (i + 1) (length parts) → IsPartSpan p ends
      → HasLast (all_of parts) (Some ends)
  last_is i p ends at none span = record {
    some = span.some;
    last = from_part parts (ends.end - 1) i p at span.last;
    below = λ k site.
        let has = in_part parts k site in
        let within = slice_get_within parts has.number has.part has.there in
        elim (cases_lt i has.number) [
          | inl late ↦ absurd (none has.number k has.part (omega (arith, late)) within has.there has.site)
          | inr upto ↦ elim (cases_eq has.number i) [
            | inl same ↦
                let one = same_part parts i has.number p has.part at has.there same in
                let here = has.site in
                span.below k (rw one at here)
            | inr differ ↦
                let apart = in_row has.number i has.part p k (ends.end - 1) (omega (arith, upto, differ)) has.there at has.site span.last in
                omega (arith, apart)
          ]
        ];
  }

module _ (parts : List (List Stretch)) (i : ℕ) (p : List Stretch) (at : slice_get parts i ≡ Some p) (here : (k : ℕ) → ¬ IsFreeSite p k) where
  pub none_free_more : (from : ℕ) → AreNoneFree parts from i → AreNoneFree parts from (i + 1)
  none_free_more from none n k q above below there = elim (cases_lt n i) [
    | inl early ↦ none n k q above early there
    | inr late ↦
        let same : n ≡ i = omega (arith, below, late) in
        let one = same_part parts i n p q at there same in
        λ free. here k (rw one at free)
  ]

  pub none_free_less : (end : ℕ) → AreNoneFree parts (i + 1) end → AreNoneFree parts i end
  none_free_less end none n k q above below there = elim (cases_eq n i) [
    | inl same ↦
        let one = same_part parts i n p q at there same in
        λ free. here k (rw one at free)
    | inr differ ↦ none n k q (omega (arith, above, differ)) below there
  ]
