-- The best position in the rows beneath a node of the tree.
use Rattle.std.proofs.Common.{◌≡◌, ◌⊎◌, ℕ, ◌+◌, ◌*◌, ◌<◌, ◌≤◌, pos, ◌+ℤ◌, ◌*ℤ◌, ◌≤ℤ◌, List, length, Option, None, Some, slice_get, All, inl, inr, refl, sym, ap, ◌∙◌, arith}
use Rattle.std.proofs.lemmas.Bool.{false≢true}
use Rattle.std.proofs.lemmas.Int.{ints}
use Rattle.std.proofs.lemmas.Option.{same_Some, none-some}
use Rattle.leg_lemmas.proofs.Places.{all_at}
use Rattle.leg_lib_records.specs.declared.records.Site.{Site}
use Rattle.leg_design_records.specs.Records.{DesignModel}
use Rattle.leg_design_records.specs.WellFormedParts.{IsRow}
use Rattle.leg_design_records.specs.declared.records.Row.{Row}
use Rattle.leg_legal_sites.specs.declared.stretch.Stretch.{Stretch}
use Rattle.leg_legal_sites.specs.declared.bounds.Bounds.{Bounds}
use Rattle.leg_legal_sites.specs.declared.candidate.Wanted.{Wanted}
use Rattle.leg_rules.specs.declared.position.Candidate.{Candidate}
use Rattle.leg_legal_sites.specs.declared.row_keys.RowKey.{RowKey}
use Rattle.leg_legal_sites.specs.Steps.Stretches.{IsFreeSite}
use Rattle.leg_legal_sites.specs.Steps.SiteBounds.{DoBoundSite, DoBound}
use Rattle.leg_legal_sites.specs.Steps.RowOrder.{IsRowOrder}
use Rattle.leg_legal_sites.specs.Steps.BestPosition.{AreReady, IsCandidate, IsBestOf, IsBetterOf}
use Rattle.leg_rules.specs.Legalise.Preference.{IsNoWorse}
use Rattle.leg_legal_sites.specs.Steps.FreeLists.{IsRowAt, DoFit, IsOfItsSite}
use Rattle.leg_legal_sites.specs.Steps.TreeOfRows.{IsLeafBeneath}
use Rattle.leg_legal_sites.specs.Steps.Bounds.{HasNone, IsBetterThan, IsBetterThanAll, AreNoBetter}
use Rattle.leg_legal_sites.specs.Steps.RowPositions.{IsCandidateOf, IsCandidateBeneath, IsBestOrBeneath}
use Rattle.leg_legal_sites.proofs.BestSoFar.{no_worse_itself, no_worse_than_worse, best_of_both, best_of_same}
use Rattle.leg_legal_sites.proofs.RowBounds.{edges_rise}
use Rattle.leg_legal_sites.proofs.RowTree.{leaf_alone, beneath_either, beneath_left, beneath_right}

-- the best one of those before is the best of itself
best_alone : (best : Option Candidate) → IsBestOf (λ d. best ≡ Some d) best
best_alone None = λ d is. none-some d is
best_alone (Some c) = (refl, λ d is. let one : c ≡ d = same_Some c d is in rw (← one) (no_worse_itself c))

-- what is no worse than each of some is the best of them and itself
pub best_stays : (P : Candidate → Type 0) (best : Option Candidate) → ((d : Candidate) → P d → best ≡ None → ⊥)
    → ((c d : Candidate) → best ≡ Some c → P d → IsNoWorse c d) → IsBestOf (λ d. P d ⊎ (best ≡ Some d)) best
best_stays P None none worse = λ d is. elim is [
  | inl p ↦ none d p refl
  | inr same ↦ none-some d same
]
best_stays P (Some c) none worse = (
  inr refl,
  λ d is. elim is [
    | inl p ↦ worse c d refl p
    | inr same ↦ let one : c ≡ d = same_Some c d same in rw (← one) (no_worse_itself c)
  ],
)

-- the better one of the best before and of the best of some
pub best_with : (P : Candidate → Type 0) (best found r : Option Candidate) → IsBestOf P found → IsBetterOf best found r
    → IsBestOf (λ d. P d ⊎ (best ≡ Some d)) r
best_with P best found r is better =
    best_of_both (λ d. best ≡ Some d) P (λ d. P d ⊎ (best ≡ Some d)) (λ d same. inr same) (λ d p. inl p)
    (λ d either. elim either [ inl p ↦ inr p | inr same ↦ inl same ])
    best found r (best_alone best) is better

module _ (P Q : Candidate → Type 0) where
  -- the best of the second kind and of the best of the first kind is the best of both
  pub best_through : (best mid r : Option Candidate) → IsBestOf (λ d. P d ⊎ (best ≡ Some d)) mid → IsBestOf (λ d. Q d ⊎ (mid ≡ Some d)) r
      → IsBestOf (λ d. (P d ⊎ Q d) ⊎ (best ≡ Some d)) r
  best_through best None None none never = λ d is. elim is [
    | inl either ↦ elim either [
      | inl p ↦ none d (inl p)
      | inr q ↦ never d (inl q)
    ]
    | inr same ↦ none d (inr same)
  ]
  best_through best None (Some c) none is = (
    elim is.0 [ inl q ↦ inl (inr q) | inr same ↦ absurd (none-some c same) ],
    λ d any. elim any [
      | inl either ↦ elim either [
        | inl p ↦ absurd (none d (inl p))
        | inr q ↦ is.1 d (inl q)
      ]
      | inr same ↦ absurd (none d (inr same))
    ],
  )
  best_through best (Some m) None first never = absurd (never m (inr refl))
  best_through best (Some m) (Some c) first is = (
    elim is.0 [
      | inl q ↦ inl (inr q)
      | inr same ↦
          let one : m ≡ c = same_Some m c same in
          elim first.0 [
            | inl p ↦ inl (inl (rw one at p))
            | inr before ↦ inr (before ∙ same)
          ]
    ],
    λ d any.
        let ahead = is.1 m (inr refl) in
        elim any [
          | inl either ↦ elim either [
            | inl p ↦ no_worse_than_worse c m d ahead (first.1 d (inl p))
            | inr q ↦ is.1 d (inl q)
          ]
          | inr same ↦ no_worse_than_worse c m d ahead (first.1 d (inr same))
        ],
  )

module _ (design : DesignModel) (proper : All (IsRow design.library) design.rows) (free : List (List Stretch)) (order : List RowKey) (wanted : Wanted)
    (ready : AreReady design.rows free wanted) (sized : IsOfItsSite design wanted) where
  abbrev Beneath : ℕ → Candidate → Type 0
  Beneath node = IsCandidateBeneath design.rows order free wanted node

  abbrev OrBest : ℕ → Option Candidate → Candidate → Type 0
  OrBest node best = IsBestOrBeneath design.rows order free wanted node best

  -- the site of a position's row, which is the component's
  row_at : (d : Candidate) (is : IsCandidate design.rows free wanted d) → (site : Site) × IsRowAt design d.row is.row site
  row_at d is =
      let has = all_at (IsRow design.library) design.rows d.row is.row proper is.there in
      (has.site, record { there = is.there; sited = has.there })

  module _ (node : ℕ) (bounds : Bounds) (fits : (key : RowKey) → IsLeafBeneath order node key → DoFit design free bounds key.row) (d : Candidate)
      (is : Beneath node d) where
    abbrev at : (site : Site) × IsRowAt design d.row is.candidate.row site
    at = row_at d is.candidate

    bound : DoBound bounds d.row is.candidate.row at.0.size is.candidate.stretches
    bound =
        let known : slice_get free is.key.row ≡ Some is.candidate.stretches = ap (slice_get free) is.row ∙ is.candidate.known in
        let here : IsRowAt design is.key.row is.candidate.row at.0 = rw is.row at.1 in
        let all = fits is.key is.leaf is.candidate.stretches known is.candidate.row at.0 here in
        rw is.row at all

    width : at.0.size.width ≡ wanted.site_width
    width = sized at.0 (ap (slice_get design.library.sites) (sym is.candidate.same) ∙ at.1.sited)

    first_site : IsFreeSite is.candidate.stretches d.first
    first_site = is.candidate.sites d.first (omega arith) (let many = ready.some in omega (arith, many))

    first_bound : DoBoundSite bounds d.row is.candidate.row at.0.size d.first
    first_bound = bound.sites d.first first_site

    none_beneath : HasNone bounds wanted → ⊥
    none_beneath (inl short) = let most = bound.longest wanted.many d.first is.candidate.sites in omega (arith, short, most)
    none_beneath (inr (inl low)) = omega (arith, low, first_bound.least_site, is.candidate.same)
    none_beneath (inr (inr high)) = omega (arith, high, first_bound.most_site, is.candidate.same)

    no_nearer : (best : Candidate) (all : IsBetterThanAll bounds wanted best) → all.far ≤ d.distance
    no_nearer best all =
        let row : Row = is.candidate.row in
        let left = first_bound.left in
        let right = first_bound.right in
        let corner = first_bound.corner in
        let wide : pos 1 ≤ℤ wanted.site_width = ready.wide in
        let on = edges_rise row.at.x wanted.site_width d.first (d.first + 1) (omega (arith, ints, wide)) (omega arith) in
        let reach = all.reach (row.at.x +ℤ pos d.first *ℤ wanted.site_width) row.at.y first_bound.low first_bound.high
        (rw width at left) (let ends = rw width at right in omega (arith, ints, ends, on)) (rw width at corner) in
        let distance = is.candidate.distance in
        omega (arith, reach, distance)

    better_still : (best : Candidate) (all : IsBetterThanAll bounds wanted best) → IsBetterThan best all.far bounds.least_row → IsNoWorse best d
    better_still best all (inl nearer) =
        let far = no_nearer best all in record {
          distance = omega (arith, nearer, far);
          turned = λ tie t. absurd (omega (arith, nearer, far, tie));
          row = λ tie turn. absurd (omega (arith, nearer, far, tie));
          first = λ tie turn level. absurd (omega (arith, nearer, far, tie));
        }
    better_still best all (inr level) =
        let far = no_nearer best all in
        let lower = first_bound.least_row in record {
          distance = omega (arith, level.0, far);
          turned = λ tie t. absurd (false≢true (sym level.1 ∙ t));
          row = λ tie turn. let below = level.2 in omega (arith, below, lower);
          first = λ tie turn same. let below = level.2 in absurd (omega (arith, below, lower, same));
        }

  -- none beneath a node is better than the best one so far
  pub best_kept : (node : ℕ) (bounds : Bounds) (best : Option Candidate) → ((key : RowKey) → IsLeafBeneath order node key → DoFit design free bounds key.row)
      → AreNoBetter bounds wanted best → IsBestOf (OrBest node best) best
  best_kept node bounds None fits none =
      best_stays (Beneath node) None (λ d is same. none_beneath node bounds fits d is none) (λ c d is p. absurd (none-some c is))
  best_kept node bounds (Some b) fits either =
      best_stays (Beneath node) (Some b) (λ d is same. none-some b (sym same)) (λ c d is p.
      let one : b ≡ c = same_Some b c is in
      rw (← one) (elim either [
        | inl none ↦ absurd (none_beneath node bounds fits d p none)
        | inr all ↦ better_still node bounds fits d p b all all.better
      ]))

  -- a leaf has one row
  pub best_at_leaf : (node place : ℕ) (key : RowKey) (best found r : Option Candidate) → length order ≤ node → node ≡ length order + place
      → slice_get order place ≡ Some key → IsBestOf (IsCandidateOf design.rows free wanted key.row) found → IsBetterOf best found r
      → IsBestOf (OrBest node best) r
  best_at_leaf node place key best found r from is there best_found better =
      best_of_same (λ d. IsCandidateOf design.rows free wanted key.row d ⊎ (best ≡ Some d)) (OrBest node best)
      (λ d either. elim either [
        | inl of ↦
            inl (record { candidate = of.candidate; key = key; leaf = record { place = place; there = there; levels = 0; beneath = sym is }; row = sym of.row })
        | inr same ↦ inr same
      ])
      (λ d either. elim either [
        | inl beneath ↦
            let alone = leaf_alone order node beneath.key beneath.leaf from in
            let here : beneath.leaf.place ≡ place = omega (arith, alone, is) in
            let one : beneath.key ≡ key = same_Some beneath.key key (sym beneath.leaf.there ∙ ap (slice_get order) here ∙ there) in
            inl (record { candidate = beneath.candidate; row = sym beneath.row ∙ ap (λ (k : RowKey). k.row) one })
        | inr same ↦ inr same
      ])
      r (best_with (IsCandidateOf design.rows free wanted key.row) best found r best_found better)

  from_below : (node : ℕ) (d : Candidate) → Beneath (2 * node) d ⊎ Beneath (2 * node + 1) d → Beneath node d
  from_below node d (inl left) = record { candidate = left.candidate; key = left.key; leaf = beneath_left order node left.key left.leaf; row = left.row }
  from_below node d (inr right) = record { candidate = right.candidate; key = right.key; leaf = beneath_right order node right.key right.leaf; row = right.row }

  to_below : (node : ℕ) → node < length order → (d : Candidate) → Beneath node d → Beneath (2 * node) d ⊎ Beneath (2 * node + 1) d
  to_below node before d is = elim (beneath_either order node is.key before is.leaf) [
    | inl left ↦ inl (record { candidate = is.candidate; key = is.key; leaf = left; row = is.row })
    | inr right ↦ inr (record { candidate = is.candidate; key = is.key; leaf = right; row = is.row })
  ]

  swapped : {P Q : Type 0} → P ⊎ Q → Q ⊎ P
  swapped (inl p) = inr p
  swapped (inr q) = inl q

  -- the rows beneath a node are those beneath the two below it, whichever is looked at first
  pub best_of_two : (node near far : ℕ) (best mid r : Option Candidate) → node < length order
      → ((near ≡ 2 * node) × (far ≡ 2 * node + 1)) ⊎ ((near ≡ 2 * node + 1) × (far ≡ 2 * node)) → IsBestOf (OrBest near best) mid
      → IsBestOf (OrBest far mid) r → IsBestOf (OrBest node best) r
  best_of_two node near far best mid r before sides first then =
      best_of_same (λ d. (Beneath near d ⊎ Beneath far d) ⊎ (best ≡ Some d)) (OrBest node best)
      (λ d either. elim either [
        | inl beneath ↦ inl (from_below node d (elim sides [
          | inl same ↦ rw (same.0, same.1) at beneath
          | inr same ↦ swapped (rw (same.0, same.1) at beneath)
        ]))
        | inr same ↦ inr same
      ])
      (λ d either. elim either [
        | inl beneath ↦
            let below = to_below node before d beneath in
            inl (elim sides [
              | inl same ↦ rw (same.0, same.1) below
              | inr same ↦ rw (same.0, same.1) (swapped below)
            ])
        | inr same ↦ inr same
      ])
      r (best_through (Beneath near) (Beneath far) best mid r first then)

module _ (design : DesignModel) (free : List (List Stretch)) (order : List RowKey) (wanted : Wanted) (is_order : IsRowOrder design.rows order) where
  -- without rows there are no positions
  pub none_without_rows : length order ≡ 0 → IsBestOf (IsCandidate design.rows free wanted) None
  none_without_rows none d candidate =
      let key : RowKey = record { site = candidate.row.site; y = candidate.row.at.y; x = candidate.row.at.x; row = d.row } in
      let found = (is_order.keys key).1 (record { row = candidate.row; there = candidate.there; site = refl; bottom = refl; left = refl }) in
      omega (arith, found.1, none)
