-- The rows on both sides of those that were looked at, and the best position in those.
use Rattle.std.proofs.Common.{◌≡◌, ◌⊎◌, ℕ, ◌+◌, ◌-◌, ◌<◌, ◌≤◌, true, false, ◌≤ℤ◌, ◌<ℤ◌, List, length, get_or, Option, None, Some, slice_get, AllPairs, inl, inr, refl, sym, ap, ◌∙◌, arith}
use Rattle.std.specs.Prelude.{IfSome}
use Rattle.std.specs.List.Sorted.{IsPartitionedBy, IsPartitionPoint}
use Rattle.std.proofs.lemmas.Bool.{cases_eq, cases_lt}
use Rattle.std.proofs.lemmas.Int.{ints}
use Rattle.std.proofs.lemmas.Option.{same_Some, slice_get_within, slice_get-get_or, get_or_from_slice_get, none-some}
use Rattle.leg_geom.specs.Gap.{apart}
use Rattle.leg_design_records.specs.declared.records.Row.{Row}
use Rattle.leg_legal_sites.specs.declared.stretch.Stretch.{Stretch}
use Rattle.leg_legal_sites.specs.declared.candidate.Wanted.{Wanted}
use Rattle.leg_rules.specs.declared.position.Candidate.{Candidate}
use Rattle.leg_legal_sites.specs.declared.row_keys.RowKey.{RowKey}
use Rattle.leg_legal_sites.specs.Steps.RowOrder.{IsKeyOf, IsBefore, IsRowOrder}
use Rattle.leg_legal_sites.specs.Steps.BestPosition.{IsCandidate, IsBestOf}
use Rattle.leg_legal_sites.specs.Steps.RowPositions.{is_lower, IsSplitAt, IsNearerThan, IsRowBeyond, IsNextPlace, IsCandidateBeneath, IsBestOrBeneath}
use Rattle.leg_legal_sites.proofs.BestSoFar.{best_of_same}
use Rattle.leg_legal_sites.proofs.BestBeneath.{best_through}
use Rattle.leg_legal_sites.proofs.RowTree.{leaf_alone, leaf_beneath_first}

-- the row of a key is of a lower site than the component's, or of its site and below its start
abbrev IsLower : RowKey → Wanted → Type 0
IsLower key wanted = (key.site < wanted.site) ⊎ ((key.site ≡ wanted.site) × (key.y <ℤ wanted.start.y))

lower_from_test : (key : RowKey) (wanted : Wanted) → is_lower key wanted ≡ true → IsLower key wanted
lower_from_test key wanted test = grind (arith, ints)

lower_test : (key : RowKey) (wanted : Wanted) → IsLower key wanted → is_lower key wanted ≡ true
lower_test key wanted lower = grind (arith, ints)

upper_from_test : (key : RowKey) (wanted : Wanted) → is_lower key wanted ≡ false
    → (wanted.site < key.site) ⊎ ((key.site ≡ wanted.site) × (wanted.start.y ≤ℤ key.y))
upper_from_test key wanted test = grind (arith, ints)

-- of two keys in order the first is of a lower site, or of the same one and no higher
abbrev pub IsUpTo : RowKey → RowKey → Type 0
IsUpTo a b = (a.site < b.site) ⊎ ((a.site ≡ b.site) × (a.y ≤ℤ b.y))

upto_from_before : (a b : RowKey) → IsBefore a b → IsUpTo a b
upto_from_before a b (inl lower) = inl lower
upto_from_before a b (inr same) = inr (
  same.0,
  elim same.1 [
    | inl below ↦ omega (arith, ints, below)
    | inr level ↦ let is = level.0 in omega (arith, ints, is)
  ],
)

pub rising_at : (order : List RowKey) → AllPairs IsBefore order → (i j : ℕ) (a b : RowKey) → slice_get order i ≡ Some a → slice_get order j ≡ Some b → i ≤ j
    → IsUpTo a b
rising_at order rising i j a b at_i at_j upto =
    elim (cases_eq i j) [
      | inl same ↦
          let one : a ≡ b = same_Some a b (sym at_i ∙ ap (slice_get order) same ∙ at_j) in
          rw one (inr (refl, omega (arith, ints)))
      | inr differ ↦
          let e = get_or_from_slice_get order i a a at_i in
          let f = get_or_from_slice_get order j b a at_j in
          let h : IsBefore (get_or order i a) (get_or order j a) = rising i j a (omega (arith, upto, differ)) (slice_get_within order j b at_j) in
          upto_from_before a b (rw (e, f) at h)
    ]

lower_still : (a b : RowKey) (wanted : Wanted) → IsUpTo a b → IsLower b wanted → IsLower a wanted
lower_still a b wanted (inl before) (inl lower) = inl (omega (arith, before, lower))
lower_still a b wanted (inl before) (inr lower) = let site = lower.0 in inl (omega (arith, before, site))
lower_still a b wanted (inr same) (inl lower) = let site = same.0 in inl (omega (arith, site, lower))
lower_still a b wanted (inr same) (inr lower) =
    let y = same.1 in
    let below = lower.1 in
    inr (same.0 ∙ lower.0, omega (arith, ints, y, below))

-- the lower rows stand first
pub lower_partitioned : (order : List RowKey) (wanted : Wanted) → AllPairs IsBefore order → IsPartitionedBy (λ key. is_lower key wanted) order
lower_partitioned order wanted rising i j d upto within test =
    elim (cases_eq i j) [
      | inl same ↦ rw same test
      | inr differ ↦
          lower_test (get_or order i d) wanted
          (lower_still (get_or order i d) (get_or order j d) wanted
          (upto_from_before (get_or order i d) (get_or order j d) (rising i j d (omega (arith, upto, differ)) within))
          (lower_from_test (get_or order j d) wanted test))
    ]

pub split_from_point : (order : List RowKey) (wanted : Wanted) (at : ℕ) → at ≤ length order
    → IsPartitionPoint (λ key. is_lower key wanted ≡ true) (λ key. is_lower key wanted ≡ false) order at → IsSplitAt order wanted at at
split_from_point order wanted at bound point = record {
  in_order = omega arith;
  within = bound;
  lower = λ k key early there.
      let test = point.0 k key (omega arith) early in
      elim (lower_from_test key wanted (rw (get_or_from_slice_get order k key key there) at test)) [
        | inl lower ↦ inl lower
        | inr below ↦ let y = below.1 in inr (below.0, omega (arith, ints, y))
      ];
  upper = λ k key late there.
      let test = point.1 k key late (slice_get_within order k key there) in
      upper_from_test key wanted (rw (get_or_from_slice_get order k key key there) at test);
}

-- the best of one kind is the best of another where what else is in it is farther away
best_beyond : (P R : Candidate → Type 0) (best : Option Candidate) → ((d : Candidate) → P d → R d)
    → ((d : Candidate) → R d → P d ⊎ IsNearerThan best d.distance) → IsBestOf P best → IsBestOf R best
best_beyond P R None from_p split none = λ d has. elim (split d has) [
  | inl p ↦ none d p
  | inr never ↦ absurd never
]
best_beyond P R (Some c) from_p split is = (
  from_p c is.0,
  λ d has.
      elim (split d has) [
        | inl p ↦ is.1 d p
        | inr beyond ↦
            record {
              distance = omega (arith, beyond);
              turned = λ tie t. absurd (omega (arith, beyond, tie));
              row = λ tie turn. absurd (omega (arith, beyond, tie));
              first = λ tie turn level. absurd (omega (arith, beyond, tie));
            }
      ],
)

nearer_still : (best : Option Candidate) (near far : ℕ) → near ≤ far → IsNearerThan best near → IsNearerThan best far
nearer_still None near far upto never = never
nearer_still (Some c) near far upto nearer = omega (arith, upto, nearer)

-- a position in one of the rows that were looked at
pub record IsCandidateSeen (rows : List Row) (order : List RowKey) (free : List (List Stretch)) (wanted : Wanted) (low high : ℕ) (c : Candidate) : Type 0 where
  pub candidate : IsCandidate rows free wanted c
  pub place : ℕ
  pub from : low ≤ place
  pub below : place < high
  pub key : RowKey
  pub there : slice_get order place ≡ Some key
  pub row : key.row ≡ c.row

-- what is known between two looks: the rows on both sides, and the best position in those that were looked at
pub record IsSearched (rows : List Row) (order : List RowKey) (free : List (List Stretch)) (wanted : Wanted) (low high : ℕ)
    (best : Option Candidate) : Type 0 where
  pub split : IsSplitAt order wanted low high
  pub is_best : IsBestOf (IsCandidateSeen rows order free wanted low high) best

module _ (rows : List Row) (order : List RowKey) (free : List (List Stretch)) (wanted : Wanted) (is_order : IsRowOrder rows order) where
  abbrev Seen : ℕ → ℕ → Candidate → Type 0
  Seen low high = IsCandidateSeen rows order free wanted low high

  abbrev Beneath : ℕ → Candidate → Type 0
  Beneath node = IsCandidateBeneath rows order free wanted node

  -- each position stands at a place of the order
  pub seen_in_all : (d : Candidate) → IsCandidate rows free wanted d → Seen 0 (length order) d
  seen_in_all d is =
      let key : RowKey = record { site = is.row.site; y = is.row.at.y; x = is.row.at.x; row = d.row } in
      let has = (is_order.keys key).1 (record { row = is.row; there = is.there; site = refl; bottom = refl; left = refl }) in
      record {
        candidate = is;
        place = has.0;
        from = omega arith;
        below = has.1;
        key = key;
        there = slice_get-get_or order has.0 key has.1 ∙ ap Some has.2;
        row = refl;
      }

  -- its row is of the component's site, and it is as far away along y as its row at least
  key_of_seen : (low high : ℕ) (d : Candidate) (seen : Seen low high d) → (seen.key.site ≡ wanted.site) × (apart seen.key.y wanted.start.y ≤ d.distance)
  key_of_seen low high d seen =
      let within = slice_get_within order seen.place seen.key seen.there in
      let is_key : IsKeyOf rows seen.key =
      (is_order.keys seen.key).0 (seen.place, within, get_or_from_slice_get order seen.place seen.key seen.key seen.there) in
      let one : is_key.row ≡ seen.candidate.row =
      same_Some is_key.row seen.candidate.row (sym is_key.there ∙ ap (slice_get rows) seen.row ∙ seen.candidate.there) in
      let level : seen.key.y ≡ seen.candidate.row.at.y = is_key.bottom ∙ ap (λ (r : Row). r.at.y) one in
      let distance = seen.candidate.distance in (
        is_key.site ∙ ap (λ (r : Row). r.site) one ∙ seen.candidate.same,
        rw level (omega (arith, distance)),
      )

  module _ (low high : ℕ) (split : IsSplitAt order wanted low high) (best : Option Candidate) where
    beyond_below : (key : RowKey) → 1 ≤ low → slice_get order (low - 1) ≡ Some key → IsRowBeyond wanted best key
        → (d : Candidate) (seen : Seen 0 (length order) d) → seen.place < low → IsNearerThan best d.distance
    beyond_below key some at beyond d seen before =
        let of = key_of_seen 0 (length order) d seen in
        let site = of.0 in
        let far = of.1 in
        let rise = rising_at order is_order.rising seen.place (low - 1) seen.key key seen.there at (omega (arith, before)) in
        let lower = split.lower (low - 1) key (omega (arith, some)) at in
        elim rise [
          | inl less ↦ absurd (elim lower [ inl below ↦ omega (arith, site, less, below) | inr same ↦ let is = same.0 in omega (arith, site, less, is) ])
          | inr level ↦
              let same : key.site ≡ wanted.site = sym level.0 ∙ site in
              let y = level.1 in
              elim beyond [
                | inl other ↦ absurd (other same)
                | inr nearer ↦
                    let upto : key.y ≤ℤ wanted.start.y = elim lower [ inl below ↦ absurd (omega (arith, same, below)) | inr is ↦ is.1 ] in
                    nearer_still best (apart key.y wanted.start.y) d.distance (omega (arith, ints, y, upto, far)) nearer
              ]
        ]

    beyond_above : (key : RowKey) → slice_get order high ≡ Some key → IsRowBeyond wanted best key → (d : Candidate) (seen : Seen 0 (length order) d)
        → high ≤ seen.place → IsNearerThan best d.distance
    beyond_above key at beyond d seen late =
        let of = key_of_seen 0 (length order) d seen in
        let site = of.0 in
        let far = of.1 in
        let rise = rising_at order is_order.rising high seen.place key seen.key at seen.there late in
        let upper = split.upper high key (omega arith) at in
        elim rise [
          | inl less ↦ absurd (elim upper [ inl above ↦ omega (arith, site, less, above) | inr same ↦ let is = same.0 in omega (arith, site, less, is) ])
          | inr level ↦
              let same : key.site ≡ wanted.site = level.0 ∙ site in
              let y = level.1 in
              elim beyond [
                | inl other ↦ absurd (other same)
                | inr nearer ↦
                    let from : wanted.start.y ≤ℤ key.y = elim upper [ inl above ↦ absurd (omega (arith, same, above)) | inr is ↦ is.1 ] in
                    nearer_still best (apart key.y wanted.start.y) d.distance (omega (arith, ints, y, from, far)) nearer
              ]
        ]

    -- a position is in one of the rows that were looked at, or farther away than the best one there
    seen_or_beyond : IsNextPlace order wanted best low high None → (d : Candidate) → IsCandidate rows free wanted d
        → Seen low high d ⊎ IsNearerThan best d.distance
    seen_or_beyond none d candidate =
        let seen = seen_in_all d candidate in
        elim (cases_lt seen.place low) [
          | inl before ↦
              let some : 1 ≤ low = omega (arith, before) in
              let in_order = split.in_order in
              let within = split.within in
              let key : RowKey = get_or order (low - 1) seen.key in
              let at : slice_get order (low - 1) ≡ Some key = slice_get-get_or order (low - 1) seen.key (omega (arith, some, in_order, within)) in
              inr (beyond_below key some at (none.0 key some at) d seen before)
          | inr from ↦
              elim (cases_lt seen.place high) [
                | inl below ↦
                    inl (record { candidate = candidate; place = seen.place; from = from; below = below; key = seen.key; there = seen.there; row = seen.row })
                | inr late ↦
                    let end = seen.below in
                    let key : RowKey = get_or order high seen.key in
                    let at : slice_get order high ≡ Some key = slice_get-get_or order high seen.key (omega (arith, late, end)) in
                    inr (beyond_above key at (none.1 key at) d seen late)
              ]
        ]

    -- the rows that are left are all farther away than the best position
    pub best_of_near : IsBestOf (Seen low high) best → IsNextPlace order wanted best low high None → IsBestOf (IsCandidate rows free wanted) best
    best_of_near is none = best_beyond (Seen low high) (IsCandidate rows free wanted) best (λ d seen. seen.candidate) (seen_or_beyond none) is

  -- one more row, next to those before
  best_more : (low high place low' high' : ℕ) → low ≤ high → place < length order
      → ((place + 1 ≡ low) × (low' ≡ place) × (high' ≡ high)) ⊎ ((place ≡ high) × (low' ≡ low) × (high' ≡ place + 1)) → (a r : Option Candidate)
      → IsBestOf (Seen low high) a → IsBestOf (IsBestOrBeneath rows order free wanted (length order + place) a) r → IsBestOf (Seen low' high') r
  best_more low high place low' high' in_order within side a r best more =
      best_of_same (λ d. (Seen low high d ⊎ Beneath (length order + place) d) ⊎ (None ≡ Some d)) (Seen low' high')
      (λ d either. elim either [
        | inl one ↦ elim one [
          | inl seen ↦ wider d seen
          | inr beneath ↦ here d beneath
        ]
        | inr same ↦ absurd (none-some d same)
      ])
      (λ d seen. inl (elim (cases_eq seen.place place) [
        | inl same ↦
            inr (record {
              candidate = seen.candidate;
              key = seen.key;
              leaf = record { place = seen.place; there = seen.there; levels = 0; beneath = ap (λ (n : ℕ). length order + n) same };
              row = seen.row;
            })
        | inr differ ↦
            let from = seen.from in
            let below = seen.below in
            inl (record {
              candidate = seen.candidate;
              place = seen.place;
              from = elim side [
                | inl left ↦ let s = left.0 in let l = left.1 in omega (arith, from, differ, s, l)
                | inr right ↦ let l = right.1 in
                    omega (arith, from, l)
              ];
              below = elim side [
                | inl left ↦ let h = left.2 in omega (arith, below, h)
                | inr right ↦ let s = right.0 in let h = right.2 in
                    omega (arith, below, differ, s, h)
              ];
              key = seen.key;
              there = seen.there;
              row = seen.row;
            })
      ]))
      r
      (best_through (Seen low high) (Beneath (length order + place)) None a r
      (best_of_same (Seen low high) (λ d. Seen low high d ⊎ (None ≡ Some d)) (λ d seen. inl seen)
      (λ d either. elim either [ inl seen ↦ seen | inr same ↦ absurd (none-some d same) ]) a best)
      more) where
        wider : (d : Candidate) → Seen low high d → Seen low' high' d
        wider d seen = let from = seen.from in let below = seen.below in record {
          candidate = seen.candidate;
          place = seen.place;
          from = elim side [ inl left ↦ let s = left.0 in let l = left.1 in omega (arith, from, s, l) | inr right ↦ let l = right.1 in omega (arith, from, l) ];
          below = elim side [
            | inl left ↦ let h = left.2 in omega (arith, below, h)
            | inr right ↦ let s = right.0 in let h = right.2 in
                omega (arith, below, s, h)
          ];
          key = seen.key;
          there = seen.there;
          row = seen.row;
        }

        here : (d : Candidate) → Beneath (length order + place) d → Seen low' high' d
        here d beneath =
            let alone = leaf_alone order (length order + place) beneath.key beneath.leaf (omega arith) in
            let same : beneath.leaf.place ≡ place = omega (arith, alone) in
            record {
              candidate = beneath.candidate;
              place = place;
              from = elim side [
                | inl left ↦ let l = left.1 in omega (arith, l)
                | inr right ↦ let s = right.0 in let l = right.1 in
                    omega (arith, s, l, in_order)
              ];
              below = elim side [
                | inl left ↦ let s = left.0 in let h = left.2 in omega (arith, s, h, in_order)
                | inr right ↦ let h = right.2 in
                    omega (arith, h)
              ];
              key = beneath.key;
              there = ap (slice_get order) (sym same) ∙ beneath.leaf.there;
              row = beneath.row;
            }

  -- one more row, below those before or above them
  pub searched_below : (low high place : ℕ) (a r : Option Candidate) → IsSearched rows order free wanted low high a → (place + 1 ≡ low) ⊎ (place ≡ high)
      → place < low → place < length order → IsBestOf (IsBestOrBeneath rows order free wanted (length order + place) a) r
      → IsSearched rows order free wanted place high r
  searched_below low high place a r so_far beside before within more =
      let in_order = so_far.split.in_order in
      let below : place + 1 ≡ low = elim beside [ inl left ↦ left | inr right ↦ absurd (omega (arith, right, before, in_order)) ] in
      record {
        split = record {
          in_order = omega (arith, before, in_order);
          within = so_far.split.within;
          lower = λ k key early at. so_far.split.lower k key (omega (arith, early, before)) at;
          upper = so_far.split.upper;
        };
        is_best = best_more low high place place high in_order within (inl (below, refl, refl)) a r so_far.is_best more;
      }

  pub searched_above : (low high place : ℕ) (a r : Option Candidate) → IsSearched rows order free wanted low high a → (place + 1 ≡ low) ⊎ (place ≡ high)
      → low ≤ place → place < length order → IsBestOf (IsBestOrBeneath rows order free wanted (length order + place) a) r
      → IsSearched rows order free wanted low (place + 1) r
  searched_above low high place a r so_far beside from within more =
      let above : place ≡ high = elim beside [ inl left ↦ absurd (omega (arith, left, from)) | inr right ↦ right ] in
      record {
        split = record {
          in_order = omega (arith, from);
          within = omega (arith, within);
          lower = so_far.split.lower;
          upper = λ k key late at. so_far.split.upper k key (omega (arith, late, above)) at;
        };
        is_best = best_more low high place low (place + 1) so_far.split.in_order within (inr (above, refl, refl)) a r so_far.is_best more;
      }

  -- the best of one position and of all, which the rows beneath the first node have
  pub best_of_all_with : (best r : Option Candidate) → IfSome best (IsCandidate rows free wanted) → IsBestOf (IsBestOrBeneath rows order free wanted 1 best) r
      → IsBestOf (IsCandidate rows free wanted) r
  best_of_all_with best r found is =
      best_of_same (IsBestOrBeneath rows order free wanted 1 best) (IsCandidate rows free wanted)
      (λ d either. elim either [
        | inl beneath ↦ beneath.candidate
        | inr same ↦ one_of best d found same
      ])
      (λ d candidate.
      let seen = seen_in_all d candidate in
      inl (record { candidate = candidate; key = seen.key; leaf = leaf_beneath_first order seen.place seen.key seen.there; row = seen.row }))
      r is where
        one_of : (best : Option Candidate) (d : Candidate) → IfSome best (IsCandidate rows free wanted) → best ≡ Some d → IsCandidate rows free wanted d
        one_of None d found same = absurd (none-some d same)
        one_of (Some c) d found same = let one : c ≡ d = same_Some c d same in rw (← one) found
