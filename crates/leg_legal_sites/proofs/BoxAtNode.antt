-- Rows that have one list together, once a rectangle is taken from it.
use Rattle.std.proofs.Common.{◌≡◌, ◌⊎◌, ◌↔◌, ℕ, ◌+◌, ◌/◌, ◌<◌, ◌≤◌, ◌<ℤ◌, List, [], length, get_or, set, Option, None, Some, slice_get, All, inl, inr, refl, sym, ap, ◌∙◌, arith, length-set, get_or-set_other}
use Rattle.std.specs.Prelude.{unwrap_or, is_some, IsSome}
use Rattle.std.specs.Int.{int_max}
use Rattle.std.proofs.lemmas.Bool.{cases_eq}
use Rattle.std.proofs.lemmas.Grind.{get_or-set_at}
use Rattle.std.proofs.lemmas.Int.{ints, clamps}
use Rattle.std.proofs.lemmas.Option.{same_Some, slice_get-get_or, slice_get_within}
use Rattle.leg_lemmas.proofs.Places.{all_at}
use Rattle.leg_geom.specs.Plane.{RectModel, IsCoordinate, ShareSquare}
use Rattle.leg_lib_records.specs.Measure.{HasArea}
use Rattle.leg_lib_records.specs.declared.records.Site.{Site}
use Rattle.leg_design_records.specs.WellFormedParts.{IsArea, IsRow}
use Rattle.leg_design_records.specs.declared.records.Row.{Row}
use Rattle.leg_design_records.specs.Records.{DesignModel}
use Rattle.leg_rules.specs.Placement.Sites.{site_box}
use Rattle.leg_legal_sites.specs.declared.stretch.Stretch.{Stretch}
use Rattle.leg_legal_sites.specs.declared.bounds.Bounds.{Bounds}
use Rattle.leg_legal_sites.specs.declared.row_keys.RowKey.{RowKey}
use Rattle.leg_legal_sites.specs.Steps.Stretches.{IsFreeSite}
use Rattle.leg_legal_sites.specs.Steps.SiteBounds.{DoBoundSite}
use Rattle.leg_legal_sites.specs.Steps.RowOrder.{IsRowOrder}
use Rattle.leg_legal_sites.specs.Steps.FreeLists.{IsRowAt, DoFit, AreRowsOf}
use Rattle.leg_legal_sites.specs.Steps.TreeOfRows.{IsLeafBeneath}
use Rattle.leg_legal_sites.specs.Steps.FreeListSharing.{list_of_node, place_of_row, row_list, row_lists}
use Rattle.leg_legal_sites.specs.Steps.Bounds.{AreWithinBounds, DoBoundAlike}
use Rattle.leg_legal_sites.specs.Steps.FreeRows.{LosesMet, AreTakenBeneath}
use Rattle.leg_legal_sites.specs.Steps.SharedLists.{own_list, AreShared, HaveNoneBefore, LosesShared, IsMetThroughout}
use Rattle.leg_legal_sites.proofs.RowBounds.{within_die}
use Rattle.leg_legal_sites.proofs.RowTree.{leaf_alone, nodes_set, nodes_weaker}
use Rattle.leg_legal_sites.proofs.TakenRows.{same_row, inside_still, fit_still}
use Rattle.leg_legal_sites.proofs.RowPlaces.{some_is, key_there, place_of_key, own_row, alike_rows}
use Rattle.leg_legal_sites.proofs.SharedLists.{IsNotBeneath, decide_beneath, same_elsewhere, same_above, row_lists_long, row_list_there, none_from}

-- a rectangle that meets two boxes along y, which lie side by side along x, shares a unit square with both or none
pub shared_along : (rect box other : RectModel) → ShareSquare rect box → other.x1 ≡ box.x1 → other.x2 ≡ box.x2 → other.y1 <ℤ rect.y2 → rect.y1 <ℤ other.y2
    → other.y1 <ℤ other.y2 → ShareSquare rect other
shared_along rect box other shared left right above below high = record {
  square = record { x = shared.square.x; y = int_max rect.y1 other.y1 };
  in_a = record {
    left = shared.in_a.left;
    right = shared.in_a.right;
    bottom = omega (arith, ints, clamps);
    top = omega (arith, ints, clamps, above, shared.in_a.bottom, shared.in_a.top);
  };
  in_b = record {
    left = omega (arith, ints, left, shared.in_b.left);
    right = omega (arith, ints, right, shared.in_b.right);
    bottom = omega (arith, ints, clamps);
    top = omega (arith, ints, clamps, below, high);
  };
}

module _ (design : DesignModel) (rect : RectModel) (order : List RowKey) (old new : List (Option (List Stretch))) (node : ℕ) (some : 1 ≤ node)
    (others : (k : ℕ) → IsNotBeneath node k → get_or new k None ≡ get_or old k None) (is_order : IsRowOrder design.rows order) where
  -- where the rows beneath a node lose what the rectangle meets, and no list elsewhere changes
  pub taken_beneath : ((key : RowKey) (a b : List Stretch) → IsLeafBeneath order node key → slice_get (row_lists order old) key.row ≡ Some a
      → slice_get (row_lists order new) key.row ≡ Some b → LosesMet design rect key.row a b)
      → AreTakenBeneath design rect order node (row_lists order old) (row_lists order new)
  taken_beneath these = record {
    count = row_lists_long order new ∙ sym (row_lists_long order old);
    each = each;
    these = these;
  } where
    each : (number : ℕ) (a b : List Stretch) → slice_get (row_lists order old) number ≡ Some a → slice_get (row_lists order new) number ≡ Some b
        → LosesMet design rect number a b ⊎ (b ≡ a)
    each number a b at now =
        let leaf = length order + place_of_row order number in
        let below = slice_get_within (row_lists order old) number a at in
        let long = row_lists_long order old in
        let was : a ≡ row_list order old number =
        same_Some a (row_list order old number) (sym at ∙ row_list_there order old number (omega (arith, below, long))) in
        let is : b ≡ row_list order new number =
        same_Some b (row_list order new number) (sym now ∙ row_list_there order new number (omega (arith, below, long))) in
        elim (decide_beneath leaf node leaf (omega arith) some) [
          | inl beneath ↦
              inl (λ row site there.
              let key : RowKey = record { site = row.site; y = row.at.y; x = row.at.x; row = number } in
              let found = (is_order.keys key).1 (record { row = row; there = there.there; site = refl; bottom = refl; left = refl }) in
              let at_place : slice_get order found.0 ≡ Some key = slice_get-get_or order found.0 key found.1 ∙ ap Some found.2 in
              let here : place_of_row order number ≡ found.0 = place_of_key design.rows order is_order found.0 key at_place in
              these key a b (record { place = found.0; there = at_place; levels = beneath.levels; beneath = rw here at beneath.beneath }) at now row site there)
          | inr never ↦ inr (is ∙ ap (λ o. unwrap_or o []) (same_elsewhere old new node others leaf leaf (omega arith) never) ∙ sym was)
        ]

either_list : (a b : Option (List Stretch)) → is_some b ≡ is_some a → (l : List Stretch) → b ≡ Some l → IsSome a
either_list a b kept l has = sym kept ∙ ap is_some has

module _ (design : DesignModel) (rect : RectModel) (order : List RowKey) (old : List (Option (List Stretch))) (rest : Option (List Stretch))
    (nodes : List Bounds) (node : ℕ)
    (shared : AreShared order old) (some : 1 ≤ node) (within : node < length old)
    (kept : is_some rest ≡ is_some (get_or old node None)) where
  abbrev pub taken : List (Option (List Stretch))
  taken = set old node rest

  taken_others : (k : ℕ) → IsNotBeneath node k → get_or taken k None ≡ get_or old k None
  taken_others k never = get_or-set_other old node k rest None (λ same. never 0 same)

  taken_own : get_or taken node None ≡ rest
  taken_own = get_or-set_at old node node rest None refl within

  -- the rows beneath nodes with lists are alike as before
  pub taken_shared : AreShared order taken
  taken_shared = record {
    count = length-set old node rest ∙ shared.count;
    alike = λ k l first has. elim (cases_eq k node) [
      | inl same ↦
          let now : rest ≡ Some l = sym taken_own ∙ ap (λ (n : ℕ). get_or taken n None) (sym same) ∙ has in
          let was = some_is (get_or old node None) (either_list (get_or old node None) rest kept l now) in
          rw same (shared.alike node was.0 some was.1)
      | inr differ ↦ shared.alike k l first (sym (get_or-set_other old node k rest None differ) ∙ has)
    ];
  }

  -- a node that had no list has none
  pub taken_before : (highest : ℕ) → HaveNoneBefore highest old → HaveNoneBefore highest taken
  taken_before highest none k below = elim (cases_eq k node) [
    | inl same ↦
        ap (λ (n : ℕ). get_or taken n None) same
        ∙ taken_own
        ∙ none_from rest (kept ∙ ap (λ (n : ℕ). is_some (get_or old n None)) (sym same) ∙ ap is_some (none k below))
    | inr differ ↦ get_or-set_other old node k rest None differ ∙ none k below
  ]

  module _ (rows : AreRowsOf design (record { lists = row_lists order old; order = order; nodes = nodes })) (alone : list_of_node old (node / 2) ≡ None)
      (met : IsMetThroughout design rect order old nodes node) (bounds : Bounds) (there : slice_get nodes node ≡ Some bounds)
      (key : RowKey) (leaf : IsLeafBeneath order node key) (row : Row) (site : Site) (at : IsRowAt design key.row row site) where
    pub taken_alone : list_of_node taken (node / 2) ≡ None
    taken_alone = same_above old taken node taken_others some ∙ alone

    has_or_leaf : (length order ≤ node) ⊎ IsSome (get_or old node None)
    has_or_leaf = elim met [ inl from ↦ inl from | inr both ↦ inr both.0 ]

    still_has : (length order ≤ node) ⊎ IsSome (get_or taken node None)
    still_has = elim met [ inl from ↦ inl from | inr both ↦ inr (ap is_some taken_own ∙ kept ∙ both.0) ]

    had_is : (k : RowKey) (a : List Stretch) → IsLeafBeneath order node k → slice_get (row_lists order old) k.row ≡ Some a → a ≡ own_list old node
    had_is k a beneath at_a = own_row design.rows order rows.order old node k a beneath some alone has_or_leaf at_a

    has_is : (k : RowKey) (b : List Stretch) → IsLeafBeneath order node k → slice_get (row_lists order taken) k.row ≡ Some b → b ≡ unwrap_or rest []
    has_is k b beneath at_b = own_row design.rows order rows.order taken node k b beneath some taken_alone still_has at_b ∙ ap (λ o. unwrap_or o []) taken_own

    -- the rows beneath the node begin at one x, and are of one site
    like : (k : RowKey) (other : Row) (its : Site) → IsLeafBeneath order node k → IsRowAt design k.row other its → (other.at.x ≡ row.at.x) × (its ≡ site)
    like k other its beneath is = elim met [
      | inl from ↦
          let one = leaf_alone order node key leaf from in
          let two = leaf_alone order node k beneath from in
          let here : beneath.place ≡ leaf.place = omega (arith, one, two) in
          let same : k ≡ key = same_Some k key (sym beneath.there ∙ ap (slice_get order) here ∙ leaf.there) in
          let all = same_row design key.row row other site its at (rw same at is) in
          (ap (λ (r : Row). r.at.x) all.0, all.1)
      | inr both ↦
          let l = some_is (get_or old node None) both.0 in
          alike_rows design order node key k row other site its rows.order (shared.alike node l.0 some l.1) leaf beneath at is
    ]

    module _ (loses : LosesShared rect row site.size (unwrap_or (get_or old node None) []) (unwrap_or rest [])) where
      bounded : (k : RowKey) (other : Row) (its : Site) → IsLeafBeneath order node k → IsRowAt design k.row other its → (n : ℕ)
          → IsFreeSite (unwrap_or (get_or old node None) []) n → slice_get (row_lists order old) k.row ≡ Some (own_list old node)
          → DoBoundSite bounds k.row other its.size n
      bounded k other its beneath is n free known = (rows.nodes.fit node bounds k some there beneath (own_list old node) known other its is).sites n free

      module _ (k : RowKey) (other : Row) (its : Site) (beneath : IsLeafBeneath order node k) (is : IsRowAt design k.row other its)
          (known : slice_get (row_lists order old) k.row ≡ Some (own_list old node))
          (known_first : slice_get (row_lists order old) key.row ≡ Some (own_list old node)) (area : HasArea site.size) where
        -- a site of one row is met where that of the other is
        met_both : (n : ℕ) → IsFreeSite (own_list old node) n
            → (ShareSquare rect (site_box other its.size n) → ShareSquare rect (site_box row site.size n))
            × (ShareSquare rect (site_box row site.size n) → ShareSquare rect (site_box other its.size n))
        met_both n free = elim met [
          | inl from ↦
              let one = leaf_alone order node key leaf from in
              let two = leaf_alone order node k beneath from in
              let here : beneath.place ≡ leaf.place = omega (arith, one, two) in
              let same : k ≡ key = same_Some k key (sym beneath.there ∙ ap (slice_get order) here ∙ leaf.there) in
              let all = same_row design key.row row other site its at (rw same at is) in
              rw (all.0, all.1) (λ shared. shared, λ shared. shared)
          | inr both ↦
              let along = both.1 bounds there in
              let high = along.high in
              let low = along.low key row site leaf at in
              let x = (like k other its beneath is).0 in
              let same = (like k other its beneath is).1 in
              let first = bounded key row site leaf at n free known_first in
              let second = bounded k other its beneath is n free known in
              let left : (site_box other its.size n).x1 ≡ (site_box row site.size n).x1 = rw (x, same) refl in
              let right : (site_box other its.size n).x2 ≡ (site_box row site.size n).x2 = rw (x, same) refl in
              let height : its.size.height ≡ site.size.height = ap (λ (s : Site). s.size.height) same in (
                λ shared. shared_along rect (site_box other its.size n) (site_box row site.size n) shared (sym left) (sym right)
                    (omega (arith, ints, first.high, high)) (omega (arith, ints, first.low, low)) (omega (arith, ints, area.high)),
                λ shared. shared_along rect (site_box row site.size n) (site_box other its.size n) shared left right
                    (omega (arith, ints, second.high, high)) (omega (arith, ints, second.low, low, height)) (omega (arith, ints, area.high, height)),
              )
        ]

        loses_there : (n : ℕ) → IsFreeSite (unwrap_or rest []) n ↔ (IsFreeSite (own_list old node) n × ¬ ShareSquare rect (site_box other its.size n))
        loses_there n = (
          λ free.
              let left = (loses n).0 free in
              (left.0, λ shared. left.1 ((met_both n left.0).0 shared)),
          λ both. (loses n).1 (both.0, λ shared. both.1 ((met_both n both.0).1 shared)),
        )

      module _ (area : HasArea site.size) where
        known_of : (k : RowKey) → IsLeafBeneath order node k → slice_get (row_lists order old) k.row ≡ Some (own_list old node)
        known_of k beneath =
            let of = key_there design.rows order rows.order beneath.place k beneath.there in
            let below = slice_get_within design.rows k.row of.row of.there in
            let long = row_lists_long order old in
            let count = rows.lists in
            let at_k = row_list_there order old k.row (omega (arith, below, long, count)) in
            at_k ∙ ap Some (had_is k (row_list order old k.row) beneath at_k)

        losing : (k : RowKey) (a b : List Stretch) → IsLeafBeneath order node k → slice_get (row_lists order old) k.row ≡ Some a
            → slice_get (row_lists order taken) k.row ≡ Some b → LosesMet design rect k.row a b
        losing k a b beneath at_a at_b other its is n =
            let was = had_is k a beneath at_a in
            let now = has_is k b beneath at_b in
            rw (was, now) (loses_there k other its beneath is (known_of k beneath) (known_of key leaf) area n)

        pub taken_at_node : AreTakenBeneath design rect order node (row_lists order old) (row_lists order taken)
        taken_at_node = taken_beneath design rect order old taken node some taken_others rows.order losing

        -- what is left lies in the die, and so within the limit
        pub left_within : IsArea design.die → AreWithinBounds row site.size (unwrap_or rest [])
        left_within die =
            within_die key.row row site.size area design.die die (unwrap_or rest [])
            (λ n free. rows.inside key.row (own_list old node) (known_of key leaf) row site at n ((loses n).0 free).0)

        -- the nodes bound what is left as they are
        pub rows_kept : AreRowsOf design (record { lists = row_lists order taken; order = order; nodes = nodes })
        rows_kept = record {
          lists = taken_at_node.count ∙ rows.lists;
          inside = inside_still design rect (row_lists order old) (row_lists order taken) taken_at_node.count taken_at_node.each rows.inside;
          order = rows.order;
          nodes = nodes_weaker order (DoFit design (row_lists order old)) (DoFit design (row_lists order taken)) nodes
              (fit_still design rect (row_lists order old) (row_lists order taken) taken_at_node.count taken_at_node.each) rows.nodes;
        }

        pub rows_at_node : All (IsRow design.library) design.rows → (fresh : Bounds) → DoBoundAlike bounds row site.size (unwrap_or rest []) fresh
            → AreRowsOf design (record { lists = row_lists order taken; order = order; nodes = set nodes node fresh })
        rows_at_node proper fresh fresh_fits = record {
          lists = taken_at_node.count ∙ rows.lists;
          inside = inside_still design rect (row_lists order old) (row_lists order taken) taken_at_node.count taken_at_node.each rows.inside;
          order = rows.order;
          nodes = nodes_set order (DoFit design (row_lists order taken)) nodes node fresh
              (λ k beneath list at_b other its is.
              let now = has_is k list beneath at_b in
              let same = like k other its beneath is in
              let near = (all_at (IsRow design.library) design.rows k.row other proper is.there).at.y in
              let far : IsCoordinate other.at.y = omega (arith, near) in
              rw (now, same.1) (fresh_fits k.row other same.0 far
              (λ n free. rw same.1 at (bounded k other its beneath is n ((loses n).0 free).0 (known_of k beneath)))))
              (nodes_weaker order (DoFit design (row_lists order old)) (DoFit design (row_lists order taken)) nodes
              (fit_still design rect (row_lists order old) (row_lists order taken) taken_at_node.count taken_at_node.each) rows.nodes);
        }
