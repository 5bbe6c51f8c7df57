-- Rows whose lists are at the leaves of the tree, each at its own.
use Rattle.std.proofs.Common.{◌≡◌, ℕ, zero, suc, ◌+◌, ◌-◌, ◌/◌, List, [], ◌∷◌, ◌++◌, length, get_or, Option, None, Some, slice_get, Contains, inl, inr, refl, sym, ap, ◌∙◌, arith, length-append}
use Rattle.std.specs.Prelude.{unwrap_or}
use Rattle.std.proofs.lemmas.Bool.{cases_eq, cases_lt}
use Rattle.std.proofs.lemmas.List.{get_or_append_left, get_or-append_right}
use Rattle.std.proofs.lemmas.Option.{same_Some, none-some, slice_get_within, slice_get-get_or}
use Rattle.leg_lib_records.specs.declared.records.Site.{Site}
use Rattle.leg_design_records.specs.Records.{DesignModel}
use Rattle.leg_design_records.specs.declared.records.Row.{Row}
use Rattle.leg_legal_sites.specs.declared.stretch.Stretch.{Stretch}
use Rattle.leg_legal_sites.specs.declared.bounds.Bounds.{Bounds}
use Rattle.leg_legal_sites.specs.declared.row_keys.RowKey.{RowKey}
use Rattle.leg_legal_sites.specs.Steps.RowOrder.{IsRowOrder}
use Rattle.leg_legal_sites.specs.Steps.ClearSites.{IsFreeList}
use Rattle.leg_legal_sites.specs.Steps.FreeLists.{IsRowAt, AreInDie, DoBoundRow, DoFit}
use Rattle.leg_legal_sites.specs.Steps.FreeListSharing.{row_lists}
use Rattle.leg_legal_sites.specs.Steps.FreeRows.{AreInside}
use Rattle.leg_legal_sites.specs.Steps.SharedLists.{own_list, AreShared, HaveNone, HaveNoneAbove, AreLeafLists}
use Rattle.leg_legal_sites.proofs.ListMoves.{none_at}
use Rattle.leg_legal_sites.proofs.RowPlaces.{list_of_key}
use Rattle.leg_legal_sites.proofs.RowTree.{leaf_alone}
use Rattle.leg_legal_sites.proofs.SharedLists.{own_is, row_lists_long}

pub none_begin : (lists : List (Option (List Stretch))) → lists ≡ [] → HaveNone 0 lists
none_begin lists empty = rw empty (record { count = refl; none = λ node. refl })

abbrev one_none : List (Option (List Stretch))
one_none = None ∷ []

no_other : (n : ℕ) → get_or one_none n None ≡ None
no_other zero = refl
no_other (suc n) = refl

-- one more node without a list
pub none_more : (many : ℕ) (lists : List (Option (List Stretch))) → HaveNone many lists → HaveNone (many + 1) (lists ++ None ∷ [])
none_more many lists are = record {
  count = length-append lists (None ∷ []) ∙ ap (λ (n : ℕ). n + 1) are.count;
  none = λ node. elim (cases_lt node (length lists)) [
    | inl before ↦ get_or_append_left lists (None ∷ []) None node before ∙ are.none node
    | inr after ↦ get_or-append_right lists (None ∷ []) (length lists) node None refl after ∙ no_other (node - length lists)
  ];
}

module _ (design : DesignModel) (order : List RowKey) where
  pub leaves_begin : (lists : List (Option (List Stretch))) → HaveNone (length order) lists → AreLeafLists design order 0 lists
  leaves_begin lists none = record {
    count = let count = none.count in omega (arith, count);
    above = λ node inner. none.none node;
    each = λ place key row site before. absurd (omega (arith, before));
  }

  -- one more leaf
  pub leaf_more : (place : ℕ) (key : RowKey) (list : List Stretch) (lists : List (Option (List Stretch))) → slice_get order place ≡ Some key
      → ((row : Row) (site : Site) → IsRowAt design key.row row site → IsFreeList row site.size design.die (Contains []) list)
      → AreLeafLists design order place lists → AreLeafLists design order (place + 1) (lists ++ Some list ∷ [])
  leaf_more place key list lists at known so_far = record {
    count = let count = so_far.count in omega (arith, count, length-append lists (Some list ∷ []));
    above = λ node inner. get_or_append_left lists (Some list ∷ []) None node (let count = so_far.count in omega (arith, count, inner))
        ∙ so_far.above node inner;
    each = λ other its row site below there is. elim (cases_eq other place) [
      | inl same ↦
          let one : its ≡ key = same_Some its key (sym there ∙ ap (slice_get order) same ∙ at) in
          let end : length order + other ≡ length lists = let count = so_far.count in omega (arith, count, same) in
          (list, ap (λ (n : ℕ). get_or (lists ++ Some list ∷ []) n None) end ∙ last_is, known row site (rw one at is))
      | inr differ ↦
          let before = so_far.each other its row site (omega (arith, below, differ)) there is in (
            before.0,
            get_or_append_left lists (Some list ∷ []) None (length order + other) (let count = so_far.count in omega (arith, count, below, differ))
                ∙ before.1,
            before.2,
          )
    ];
  } where
    last_is : get_or (lists ++ Some list ∷ []) (length lists) None ≡ Some list
    last_is =
        let none : length lists - length lists ≡ 0 = omega arith in
        get_or-append_right lists (Some list ∷ []) (length lists) (length lists) None refl (omega arith) ∙ ap (λ (n : ℕ). get_or (Some list ∷ []) n None) none

  module _ (is_order : IsRowOrder design.rows order) (lists : List (Option (List Stretch))) (are : AreLeafLists design order (length order) lists) where
    -- a row's list is its leaf's own
    pub leaf_has : (place : ℕ) (key : RowKey) (list : List Stretch) → slice_get order place ≡ Some key → slice_get (row_lists order lists) key.row ≡ Some list
        → list ≡ own_list lists (length order + place)
    leaf_has place key list there at =
        let within = slice_get_within order place key there in
        let above = none_at lists ((length order + place) / 2) (λ k upto. are.above k (omega (arith, upto, within))) in
        list_of_key design.rows order is_order lists place key list there at
        ∙ ap (λ o. unwrap_or o []) (own_is lists ((length order + place) / 2) (length order + place) (omega (arith, within)) refl above)

    pub leaves_inside : length order ≡ length design.rows → AreInside design (length design.rows) (row_lists order lists)
    leaves_inside count = record {
      count = row_lists_long order lists ∙ count;
      each = λ number row site list is at.
          let key : RowKey = record { site = row.site; y = row.at.y; x = row.at.x; row = number } in
          let found = (is_order.keys key).1 (record { row = row; there = is.there; site = refl; bottom = refl; left = refl }) in
          let there : slice_get order found.0 ≡ Some key = slice_get-get_or order found.0 key found.1 ∙ ap Some found.2 in
          let own = leaf_has found.0 key list there at in
          let known = are.each found.0 key row site found.1 there is in
          rw (own ∙ ap (λ o. unwrap_or o []) known.1) known.2;
    }

    -- the free sites of a leaf lie in the die
    pub leaf_in_die : (place : ℕ) (key : RowKey) → slice_get order place ≡ Some key → AreInDie design key.row (own_list lists (length order + place))
    leaf_in_die place key there row site is k free =
        let known = are.each place key row site (slice_get_within order place key there) there is in
        ((known.2 k).0 (let same : own_list lists (length order + place) ≡ known.0 = ap (λ o. unwrap_or o []) known.1 in rw same at free)).1.inside

    -- what bounds a leaf's own sites bounds those of its row
    pub leaf_fits : (place : ℕ) (key : RowKey) (bounds : Bounds) → slice_get order place ≡ Some key
        → DoBoundRow design bounds key.row (own_list lists (length order + place)) → DoFit design (row_lists order lists) bounds key.row
    leaf_fits place key bounds there fits list at = rw (leaf_has place key list there at) fits

    pub leaves_none : HaveNoneAbove order lists
    leaves_none = are.above

    -- no rows lie beneath a node that has a list but that of its leaf
    pub leaves_shared : AreShared order lists
    leaves_shared = record {
      count = let count = are.count in omega (arith, count);
      alike = λ node list some has. elim (cases_lt node (length order)) [
        | inl inner ↦ absurd (none-some list (sym (are.above node inner) ∙ has))
        | inr from ↦ λ a b leaf_a leaf_b.
            let one = leaf_alone order node a leaf_a from in
            let two = leaf_alone order node b leaf_b from in
            let here : leaf_a.place ≡ leaf_b.place = omega (arith, one, two) in
            let same : a ≡ b = same_Some a b (sym leaf_a.there ∙ ap (slice_get order) here ∙ leaf_b.there) in
            (ap (λ (k : RowKey). k.x) same, ap (λ (k : RowKey). k.site) same)
      ];
    }
