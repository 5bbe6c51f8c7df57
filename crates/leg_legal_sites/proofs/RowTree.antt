-- Which leaves lie beneath a node of the tree over the rows.
use Rattle.std.proofs.Common.{◌≡◌, ◌⊎◌, ℕ, zero, suc, ◌+◌, ◌*◌, ◌<◌, ◌≤◌, List, [], ◌∷◌, ◌++◌, length, get_or, set, Some, slice_get, inl, inr, refl, sym, ap, ◌∙◌, arith, length-set, length-append}
use Rattle.std.proofs.lemmas.Bool.{cases_eq}
use Rattle.std.proofs.lemmas.Option.{same_Some, slice_get-get_or, slice_get_within}
use Rattle.leg_lemmas.proofs.Places.{last_or_before, set_elsewhere}
use Rattle.leg_legal_sites.specs.declared.bounds.Bounds.{Bounds}
use Rattle.leg_legal_sites.specs.declared.row_keys.RowKey.{RowKey}
use Rattle.leg_legal_sites.specs.Steps.Bounds.{DoCover}
use Rattle.leg_legal_sites.specs.Steps.TreeOfRows.{IsLevelsBeneath, IsLeafBeneath, AreNodes}
use Rattle.leg_legal_sites.specs.Steps.RowTree.{AreLeavesUpTo, AreJoinedFrom}
use Rattle.leg_legal_sites.proofs.ListPlaces.{slice_get-set_same, slice_get-set_other}

-- a node beneath another has no lower number
pub not_before : (levels node other : ℕ) → IsLevelsBeneath levels node other → node ≤ other
not_before zero node other same = omega (arith, same)
not_before (suc levels) node other (inl left) = let more = not_before levels (2 * node) other left in omega (arith, more)
not_before (suc levels) node other (inr right) = let more = not_before levels (2 * node + 1) other right in omega (arith, more)

-- one beneath it, but not the node itself, has twice its number at least
twice : (levels node other : ℕ) → IsLevelsBeneath (suc levels) node other → 2 * node ≤ other
twice levels node other (inl left) = not_before levels (2 * node) other left
twice levels node other (inr right) = let more = not_before levels (2 * node + 1) other right in omega (arith, more)

-- what is below a node that lies beneath another, lies beneath that one too
pub one_lower : (levels node p q : ℕ) → IsLevelsBeneath levels node p → (q ≡ 2 * p) ⊎ (q ≡ 2 * p + 1) → IsLevelsBeneath (suc levels) node q
one_lower zero node p q same (inl left) = inl (omega (arith, same, left))
one_lower zero node p q same (inr right) = inr (omega (arith, same, right))
one_lower (suc levels) node p q (inl below) side = inl (one_lower levels (2 * node) p q below side)
one_lower (suc levels) node p q (inr below) side = inr (one_lower levels (2 * node + 1) p q below side)

pub record Half (q : ℕ) : Type 0 where
  pub p : ℕ
  pub is : (q ≡ 2 * p) ⊎ (q ≡ 2 * p + 1)

pub half : (q : ℕ) → Half q
half zero = record { p = 0; is = inl refl }
half (suc q) =
    let h = half q in
    elim h.is [
      | inl even ↦ record { p = h.p; is = inr (omega (arith, even)) }
      | inr odd ↦ record { p = h.p + 1; is = inl (omega (arith, odd)) }
    ]

record IsBeneathFirst (q : ℕ) : Type 0 where
  levels : ℕ
  beneath : IsLevelsBeneath levels 1 q

-- all nodes lie beneath the first
beneath_first : (most q : ℕ) → q ≤ most → 1 ≤ q → IsBeneathFirst q
beneath_first zero q upto some = absurd (omega (arith, upto, some))
beneath_first (suc most) q upto some =
    let h = half q in
    elim (cases_eq q 1) [
      | inl first ↦ record { levels = 0; beneath = first }
      | inr later ↦
          let above =
          beneath_first most h.p (elim h.is [ inl even ↦ omega (arith, even, upto, some) | inr odd ↦ omega (arith, odd, upto, some) ])
          (elim h.is [ inl even ↦ omega (arith, even, some) | inr odd ↦ omega (arith, odd, later, some) ]) in
          record { levels = suc above.levels; beneath = one_lower above.levels 1 h.p q above.beneath h.is }
    ]

-- bounds that cover those of the two nodes below one
pub record DoCoverBelow (nodes : List Bounds) (node : ℕ) (outer : Bounds) : Type 0 where
  pub left : Bounds
  pub right : Bounds
  pub at_left : slice_get nodes (2 * node) ≡ Some left
  pub at_right : slice_get nodes (2 * node + 1) ≡ Some right
  pub over_left : DoCover outer left
  pub over_right : DoCover outer right

pub cover_below : (nodes : List Bounds) (node : ℕ) (outer none : Bounds) → 2 * node + 1 < length nodes → DoCover outer (get_or nodes (2 * node) none)
    → DoCover outer (get_or nodes (2 * node + 1) none) → DoCoverBelow nodes node outer
cover_below nodes node outer none within over_left over_right = record {
  left = get_or nodes (2 * node) none;
  right = get_or nodes (2 * node + 1) none;
  at_left = slice_get-get_or nodes (2 * node) none (omega (arith, within));
  at_right = slice_get-get_or nodes (2 * node + 1) none within;
  over_left = over_left;
  over_right = over_right;
}

module _ (order : List RowKey) where
  -- all leaves do
  pub leaf_beneath_first : (place : ℕ) (key : RowKey) → slice_get order place ≡ Some key → IsLeafBeneath order 1 key
  leaf_beneath_first place key there =
      let within = slice_get_within order place key there in
      let is = beneath_first (length order + place) (length order + place) (omega arith) (omega (arith, within)) in
      record { place = place; there = there; levels = is.levels; beneath = is.beneath }

  -- a leaf has no other beneath it
  pub leaf_alone : (node : ℕ) (key : RowKey) (leaf : IsLeafBeneath order node key) → length order ≤ node → node ≡ length order + leaf.place
  leaf_alone node key leaf from =
      let within = slice_get_within order leaf.place key leaf.there in
      alone leaf.levels node (length order + leaf.place) leaf.beneath (omega (arith, within, from)) where
        alone : (levels node other : ℕ) → IsLevelsBeneath levels node other → other < 2 * node → node ≡ other
        alone zero node other same below = sym same
        alone (suc levels) node other lower below = let more = twice levels node other lower in absurd (omega (arith, more, below))

  -- the leaves beneath a node lie beneath one of the two below it
  pub beneath_either : (node : ℕ) (key : RowKey) → node < length order → IsLeafBeneath order node key
      → IsLeafBeneath order (2 * node) key ⊎ IsLeafBeneath order (2 * node + 1) key
  beneath_either node key before leaf = either leaf.levels leaf.beneath where
    either : (levels : ℕ) → IsLevelsBeneath levels node (length order + leaf.place)
        → IsLeafBeneath order (2 * node) key ⊎ IsLeafBeneath order (2 * node + 1) key
    either zero same = absurd (omega (arith, same, before))
    either (suc levels) (inl left) = inl (record { place = leaf.place; there = leaf.there; levels = levels; beneath = left })
    either (suc levels) (inr right) = inr (record { place = leaf.place; there = leaf.there; levels = levels; beneath = right })

  pub beneath_left : (node : ℕ) (key : RowKey) → IsLeafBeneath order (2 * node) key → IsLeafBeneath order node key
  beneath_left node key leaf = record { place = leaf.place; there = leaf.there; levels = suc leaf.levels; beneath = inl leaf.beneath }

  pub beneath_right : (node : ℕ) (key : RowKey) → IsLeafBeneath order (2 * node + 1) key → IsLeafBeneath order node key
  beneath_right node key leaf = record { place = leaf.place; there = leaf.there; levels = suc leaf.levels; beneath = inr leaf.beneath }

  module _ (Fits : Bounds → ℕ → Type 0) where
    -- a node is made anew
    pub nodes_set : (nodes : List Bounds) (node : ℕ) (bounds : Bounds) → ((key : RowKey) → IsLeafBeneath order node key → Fits bounds key.row)
        → AreNodes order Fits nodes → AreNodes order Fits (set nodes node bounds)
    nodes_set nodes node bounds fits are = record {
      count = length-set nodes node bounds ∙ are.count;
      fit = λ other its key some there leaf. elim (cases_eq other node) [
        | inl same ↦
            let is : its ≡ bounds = slice_get-set_same nodes node other bounds its same there in
            rw is (fits key (rw same at leaf))
        | inr differ ↦ are.fit other its key some (slice_get-set_other nodes node other bounds its differ there) leaf
      ];
    }

    -- where the nodes fit what lies beneath them, they fit what follows from that
    pub nodes_weaker : (Others : Bounds → ℕ → Type 0) (nodes : List Bounds) → ((bounds : Bounds) (number : ℕ) → Fits bounds number → Others bounds number)
        → AreNodes order Fits nodes → AreNodes order Others nodes
    nodes_weaker Others nodes weaker are = record {
      count = are.count;
      fit = λ node bounds key some there leaf. weaker bounds key.row (are.fit node bounds key some there leaf);
    }

    module _ (covered : (outer inner : Bounds) (number : ℕ) → DoCover outer inner → Fits inner number → Fits outer number) where
      -- a node that covers the two below it fits what lies beneath it
      pub fits_joined : (nodes : List Bounds) (node : ℕ) (outer : Bounds) → AreNodes order Fits nodes → 1 ≤ node → node < length order
          → DoCoverBelow nodes node outer → (key : RowKey) → IsLeafBeneath order node key → Fits outer key.row
      fits_joined nodes node outer are some before below key leaf =
          elim (beneath_either node key before leaf) [
            | inl lower ↦ covered outer below.left key.row below.over_left (are.fit (2 * node) below.left key (omega (arith, some)) below.at_left lower)
            | inr lower ↦ covered outer below.right key.row below.over_right (are.fit (2 * node + 1) below.right key (omega arith) below.at_right lower)
          ]

      module _ (old new : List Bounds) (leaves : AreLeavesUpTo order Fits (length order) old) (joined : AreJoinedFrom (length order) 1 old new) where
        count_new : length new ≡ 2 * length order
        count_new = omega (arith, leaves.count, joined.count)

        at_leaf : (node : ℕ) (bounds : Bounds) (place : ℕ) (key : RowKey) → slice_get new node ≡ Some bounds → slice_get order place ≡ Some key
            → node ≡ length order + place → Fits bounds key.row
        at_leaf node bounds place key there at same =
            let within = slice_get_within order place key at in
            let here : slice_get new (length order + place) ≡ Some bounds = rw same at there in
            let was : slice_get old (length order + place) ≡ Some bounds = sym (joined.kept (length order + place) (omega arith)) ∙ here in
            leaves.fit place key bounds within at was

        fit_levels : (levels node : ℕ) (bounds : Bounds) (place : ℕ) (key : RowKey) → 1 ≤ node → slice_get new node ≡ Some bounds
            → slice_get order place ≡ Some key → IsLevelsBeneath levels node (length order + place) → Fits bounds key.row
        fit_levels zero node bounds place key some there at same = at_leaf node bounds place key there at (sym same)
        fit_levels (suc levels) node bounds place key some there at (inl left) =
            let within = slice_get_within order place key at in
            let more = not_before levels (2 * node) (length order + place) left in
            let inner : Bounds = get_or new (2 * node) bounds in
            let below : slice_get new (2 * node) ≡ Some inner = slice_get-get_or new (2 * node) bounds (omega (arith, more, within, count_new)) in
            covered bounds inner key.row (joined.cover node bounds inner some (omega (arith, more, within)) there (inl below))
            (fit_levels levels (2 * node) inner place key (omega (arith, some)) below at left)
        fit_levels (suc levels) node bounds place key some there at (inr right) =
            let within = slice_get_within order place key at in
            let more = not_before levels (2 * node + 1) (length order + place) right in
            let inner : Bounds = get_or new (2 * node + 1) bounds in
            let below : slice_get new (2 * node + 1) ≡ Some inner = slice_get-get_or new (2 * node + 1) bounds (omega (arith, more, within, count_new)) in
            covered bounds inner key.row (joined.cover node bounds inner some (omega (arith, more, within)) there (inr below))
            (fit_levels levels (2 * node + 1) inner place key (omega arith) below at right)

        -- the leaves fit, and each other node covers those below it
        pub nodes_from_joined : AreNodes order Fits new
        nodes_from_joined = record {
          count = count_new;
          fit = λ node bounds key some there leaf. fit_levels leaf.levels node bounds leaf.place key some there leaf.there leaf.beneath;
        }

    -- one more leaf
    pub leaves_more : (place : ℕ) (key : RowKey) (nodes : List Bounds) (bounds : Bounds) → slice_get order place ≡ Some key → Fits bounds key.row
        → AreLeavesUpTo order Fits place nodes → AreLeavesUpTo order Fits (place + 1) (nodes ++ bounds ∷ [])
    leaves_more place key nodes bounds at fits so_far = record {
      count = omega (arith, so_far.count, length-append nodes (bounds ∷ []));
      fit = λ other its told below there_at there. elim (last_or_before nodes bounds (length order + other) told there) [
        | inl before ↦
            so_far.fit other its told (let within = slice_get_within nodes (length order + other) told before in omega (arith, within, so_far.count))
            there_at before
        | inr last ↦
            let here : other ≡ place = omega (arith, last.0, so_far.count) in
            let one : its ≡ key = same_Some its key (sym there_at ∙ ap (slice_get order) here ∙ at) in
            rw (last.1, one) fits
      ];
    }

    pub leaves_none : (nodes : List Bounds) → length nodes ≡ length order → AreLeavesUpTo order Fits 0 nodes
    leaves_none nodes count = record { count = omega (arith, count); fit = λ place key bounds below at there. absurd (omega (arith, below)) }

-- no node is joined yet
pub joined_none : (leaves : ℕ) (nodes : List Bounds) → AreJoinedFrom leaves leaves nodes nodes
joined_none leaves nodes = record {
  count = refl;
  kept = λ k from. refl;
  cover = λ k a b from before there at. absurd (omega (arith, from, before));
}

pub joined_fewer : (leaves from later : ℕ) (old new : List Bounds) → from ≤ later → AreJoinedFrom leaves from old new → AreJoinedFrom leaves later old new
joined_fewer leaves from later old new order joined = record {
  count = joined.count;
  kept = joined.kept;
  cover = λ k a b late before there at. joined.cover k a b (omega (arith, late, order)) before there at;
}

-- one more node is joined
module _ (leaves node : ℕ) (old mid : List Bounds) (outer : Bounds) where
  pub joined_more : node < leaves → 1 ≤ node → DoCoverBelow mid node outer → AreJoinedFrom leaves (node + 1) old mid
      → AreJoinedFrom leaves node old (set mid node outer)
  joined_more before some two so_far = record {
    count = length-set mid node outer ∙ so_far.count;
    kept = λ k from. set_elsewhere mid node k outer (λ same. omega (arith, from, before, same)) ∙ so_far.kept k from;
    cover = λ k a b from below there at. elim (cases_eq k node) [
      | inl same ↦
          let is : a ≡ outer = slice_get-set_same mid node k outer a same there in
          rw is (elim at [
            | inl lower ↦ let one : b ≡ two.left =
                same_Some b two.left (sym (unset (2 * k) b (omega (arith, same, some)) lower) ∙ ap (λ (n : ℕ). slice_get mid (2 * n)) same ∙ two.at_left) in
                rw one two.over_left
            | inr lower ↦ let one : b ≡ two.right =
                same_Some b two.right
                (sym (unset (2 * k + 1) b (omega (arith, same, some)) lower) ∙ ap (λ (n : ℕ). slice_get mid (2 * n + 1)) same ∙ two.at_right) in
                rw one two.over_right
          ])
      | inr differ ↦
          so_far.cover k a b (omega (arith, from, differ)) below (slice_get-set_other mid node k outer a differ there) (elim at [
            | inl lower ↦ inl (unset (2 * k) b (omega (arith, from)) lower)
            | inr lower ↦ inr (unset (2 * k + 1) b (omega (arith, from)) lower)
          ])
    ];
  } where
    unset : (k : ℕ) (b : Bounds) → node < k → slice_get (set mid node outer) k ≡ Some b → slice_get mid k ≡ Some b
    unset k b later there = slice_get-set_other mid node k outer b (λ same. omega (arith, later, same)) there
