-- A list that moves between a node and those below it.
use Rattle.std.proofs.Common.{◌≡◌, ◌≢◌, ◌⊎◌, ℕ, zero, suc, ◌+◌, ◌*◌, ◌/◌, ◌<◌, ◌≤◌, max, List, length, get_or, set, Option, None, Some, slice_get, inl, inr, refl, sym, ap, ◌∙◌, arith, length-set, get_or-set_other}
use Rattle.std.proofs.lemmas.Bool.{cases_eq, cases_lt}
use Rattle.std.proofs.lemmas.Grind.{get_or-set_at}
use Rattle.std.proofs.lemmas.Int.{ints, clamps}
use Rattle.std.proofs.lemmas.Option.{none-some}
use Rattle.leg_design_records.specs.Records.{DesignModel}
use Rattle.leg_design_records.specs.declared.records.Row.{Row}
use Rattle.leg_lib_records.specs.Measure.{ExtentModel}
use Rattle.leg_legal_sites.specs.declared.stretch.Stretch.{Stretch}
use Rattle.leg_legal_sites.specs.declared.bounds.Bounds.{Bounds}
use Rattle.leg_legal_sites.specs.declared.row_keys.RowKey.{RowKey}
use Rattle.leg_legal_sites.specs.Steps.SiteBounds.{DoBoundSite}
use Rattle.leg_legal_sites.specs.Steps.FreeLists.{DoFit, AreRowsOf}
use Rattle.leg_legal_sites.specs.Steps.TreeOfRows.{IsLevelsBeneath, IsLeafBeneath}
use Rattle.leg_legal_sites.specs.Steps.FreeListSharing.{list_within, list_of_node, row_lists}
use Rattle.leg_legal_sites.specs.Steps.Bounds.{AreOfBoth}
use Rattle.leg_legal_sites.specs.Steps.SharedLists.{HaveAlikeLists, AreShared, HaveNoneBefore, IsShareable, IsSharedFrom}
use Rattle.leg_legal_sites.proofs.RowTree.{beneath_either, beneath_left, beneath_right, nodes_set}
use Rattle.leg_legal_sites.proofs.SharedLists.{half_of_left, half_of_right, half_below, at_none, own_is, from_above, IsNotBeneath, decide_beneath, same_elsewhere, same_above, same_rows}

module _ (node : ℕ) (some : 1 ≤ node) (list : List Stretch) (lists : List (Option (List Stretch))) (alone : list_of_node lists (node / 2) ≡ None) where
  -- a node whose list those beneath it have
  pub gives_own : get_or lists node None ≡ Some list → (levels other : ℕ) → IsLevelsBeneath (suc levels) node other → list_of_node lists other ≡ Some list
  gives_own has levels other beneath = from_above (suc levels) node other lists list some beneath (own_is lists (node / 2) node some refl alone ∙ has)

  -- both nodes below it, whose list they have
  pub gives_both : get_or lists node None ≡ None → get_or lists (2 * node) None ≡ Some list → get_or lists (2 * node + 1) None ≡ Some list
      → (levels other : ℕ) → IsLevelsBeneath (suc levels) node other → list_of_node lists other ≡ Some list
  gives_both none left right levels other (inl beneath) =
      from_above levels (2 * node) other lists list (omega (arith, some)) beneath
      (own_is lists node (2 * node) (omega (arith, some)) (half_of_left node) (own_is lists (node / 2) node some refl alone ∙ none) ∙ left)
  gives_both none left right levels other (inr beneath) =
      from_above levels (2 * node + 1) other lists list (omega arith) beneath
      (own_is lists node (2 * node + 1) (omega arith) (half_of_right node) (own_is lists (node / 2) node some refl alone ∙ none) ∙ right)

module _ (order : List RowKey) (node : ℕ) (some : 1 ≤ node) (inner : node < length order) (list : List Stretch) (old new : List (Option (List Stretch)))
    (others : (k : ℕ) → IsNotBeneath node k → get_or new k None ≡ get_or old k None)
    (had : (levels other : ℕ) → IsLevelsBeneath (suc levels) node other → list_of_node old other ≡ Some list)
    (has : (levels other : ℕ) → IsLevelsBeneath (suc levels) node other → list_of_node new other ≡ Some list) where
  same_beneath : (levels leaf : ℕ) → length order ≤ leaf → IsLevelsBeneath levels node leaf → list_of_node new leaf ≡ list_of_node old leaf
  same_beneath zero leaf from same = absurd (omega (arith, same, from, inner))
  same_beneath (suc levels) leaf from beneath = has levels leaf beneath ∙ sym (had levels leaf beneath)

  -- no row notices that
  pub same_view : row_lists order new ≡ row_lists order old
  same_view = same_rows order old new (λ leaf from. elim (decide_beneath leaf node leaf (omega arith) some) [
    | inl is ↦ same_beneath is.levels leaf from is.beneath
    | inr never ↦ same_elsewhere old new node others leaf leaf (omega arith) never
  ])

-- Three lists are others now.
module _ (lists : List (Option (List Stretch))) (i j k : ℕ) (a b c : Option (List Stretch)) where
  abbrev pub three_set : List (Option (List Stretch))
  three_set = set (set (set lists i a) j b) k c

  pub three_long : length three_set ≡ length lists
  three_long = length-set (set (set lists i a) j b) k c ∙ length-set (set lists i a) j b ∙ length-set lists i a

  pub three_others : (n : ℕ) → n ≢ i → n ≢ j → n ≢ k → get_or three_set n None ≡ get_or lists n None
  three_others n not_i not_j not_k =
      get_or-set_other (set (set lists i a) j b) k n c None not_k ∙ get_or-set_other (set lists i a) j n b None not_j ∙ get_or-set_other lists i n a None not_i

  pub third_is : k < length lists → get_or three_set k None ≡ c
  third_is below = get_or-set_at (set (set lists i a) j b) k k c None refl (omega (arith, below, length-set (set lists i a) j b, length-set lists i a))

  pub second_is : j ≢ k → j < length lists → get_or three_set j None ≡ b
  second_is apart below =
      get_or-set_other (set (set lists i a) j b) k j c None apart ∙ get_or-set_at (set lists i a) j j b None refl (omega (arith, below, length-set lists i a))

  pub first_is : i ≢ j → i ≢ k → i < length lists → get_or three_set i None ≡ a
  first_is not_j not_k below =
      get_or-set_other (set (set lists i a) j b) k i c None not_k ∙ get_or-set_other (set lists i a) j i b None not_j
      ∙ get_or-set_at lists i i a None refl below

pub alike_left : (order : List RowKey) (node : ℕ) → HaveAlikeLists order node → HaveAlikeLists order (2 * node)
alike_left order node alike a b leaf_a leaf_b = alike a b (beneath_left order node a leaf_a) (beneath_left order node b leaf_b)

pub alike_right : (order : List RowKey) (node : ℕ) → HaveAlikeLists order node → HaveAlikeLists order (2 * node + 1)
alike_right order node alike a b leaf_a leaf_b = alike a b (beneath_right order node a leaf_a) (beneath_right order node b leaf_b)

-- a row beneath each of the two nodes below one, both of one site, which begin at one x
pub record HasAlikeRows (order : List RowKey) (node : ℕ) : Type 0 where
  pub a : RowKey
  pub b : RowKey
  pub on_left : IsLeafBeneath order (2 * node) a
  pub on_right : IsLeafBeneath order (2 * node + 1) b
  pub x : a.x ≡ b.x
  pub site : a.site ≡ b.site

-- the rows beneath two nodes are alike, where one beneath each is like the other
pub alike_both : (order : List RowKey) (node : ℕ) → node < length order → HaveAlikeLists order (2 * node) → HaveAlikeLists order (2 * node + 1)
    → HasAlikeRows order node → HaveAlikeLists order node
alike_both order node inner left right rows p q leaf_p leaf_q =
    let of_p = like p leaf_p in
    let of_q = like q leaf_q in
    (of_p.0 ∙ sym of_q.0, of_p.1 ∙ sym of_q.1) where
      like : (p : RowKey) → IsLeafBeneath order node p → (p.x ≡ rows.a.x) × (p.site ≡ rows.a.site)
      like p leaf = elim (beneath_either order node p inner leaf) [
        | inl lower ↦ left p rows.a lower rows.on_left
        | inr lower ↦ let same = right p rows.b lower rows.on_right in (same.0 ∙ sym rows.x, same.1 ∙ sym rows.site)
      ]

apart_left : (node : ℕ) → 1 ≤ node → 2 * node ≢ node
apart_left node some same = omega (arith, some, same)

-- A node's list is that of both nodes below it now.
module _ (order : List RowKey) (node : ℕ) (some : 1 ≤ node) (inner : node < length order) (list : List Stretch) (old : List (Option (List Stretch)))
    (shared : AreShared order old) (alone : list_of_node old (node / 2) ≡ None) (had : get_or old node None ≡ Some list) where
  abbrev pub handed : List (Option (List Stretch))
  handed = three_set old (2 * node + 1) node (2 * node) (Some list) None (Some list)

  handed_others : (k : ℕ) → IsNotBeneath node k → get_or handed k None ≡ get_or old k None
  handed_others k never =
      three_others old (2 * node + 1) node (2 * node) (Some list) None (Some list) k (λ same. never 1 (inr same)) (λ same. never 0 same)
      (λ same. never 1 (inl same))

  room : 2 * node + 1 < length old
  room = let count = shared.count in omega (arith, count, inner)

  handed_alone : list_of_node handed (node / 2) ≡ None
  handed_alone = same_above old handed node handed_others some ∙ alone

  handed_own : get_or handed node None ≡ None
  handed_own = second_is old (2 * node + 1) node (2 * node) (Some list) None (Some list) (λ same. omega (arith, some, same)) (omega (arith, room))

  pub handed_none : list_of_node handed node ≡ None
  handed_none = own_is handed (node / 2) node some refl handed_alone ∙ handed_own

  -- it had none before the node, and has none there now
  pub handed_before : (highest : ℕ) → HaveNoneBefore highest old → HaveNoneBefore highest handed
  handed_before highest none k below =
      elim (cases_lt node highest) [
        | inl before ↦ absurd (none-some list (sym (none node before) ∙ had))
        | inr from ↦ elim (cases_eq k node) [
          | inl same ↦ absurd (omega (arith, same, below, from))
          | inr differ ↦
              three_others old (2 * node + 1) node (2 * node) (Some list) None (Some list) k (λ same. omega (arith, same, below, from)) differ
              (λ same. omega (arith, same, below, from, some))
              ∙ none k below
        ]
      ]

  handed_left : get_or handed (2 * node) None ≡ Some list
  handed_left = third_is old (2 * node + 1) node (2 * node) (Some list) None (Some list) (omega (arith, room))

  handed_right : get_or handed (2 * node + 1) None ≡ Some list
  handed_right = first_is old (2 * node + 1) node (2 * node) (Some list) None (Some list) (λ same. omega (arith, same)) (λ same. omega (arith, same)) room

  pub handed_same : row_lists order handed ≡ row_lists order old
  handed_same =
      same_view order node some inner list old handed handed_others (gives_own node some list old alone had)
      (gives_both node some list handed handed_alone handed_own handed_left handed_right)

  pub handed_shared : AreShared order handed
  handed_shared = record {
    count = three_long old (2 * node + 1) node (2 * node) (Some list) None (Some list) ∙ shared.count;
    alike = λ k l first has. elim (cases_eq k node) [
      | inl same ↦ absurd (none-some l (sym handed_own ∙ ap (λ (n : ℕ). get_or handed n None) (sym same) ∙ has))
      | inr not_node ↦ elim (cases_eq k (2 * node)) [
        | inl same ↦ rw same (alike_left order node (shared.alike node list some had))
        | inr not_left ↦ elim (cases_eq k (2 * node + 1)) [
          | inl same ↦ rw same (alike_right order node (shared.alike node list some had))
          | inr not_right ↦
              shared.alike k l first (sym (three_others old (2 * node + 1) node (2 * node) (Some list) None (Some list) k not_right not_node not_left) ∙ has)
        ]
      ]
    ];
  }

-- what both bound, their narrower ones do
both_site : (number : ℕ) (row : Row) (size : ExtentModel) (k : ℕ) (a b both : Bounds) → AreOfBoth a b both → DoBoundSite a number row size k
    → DoBoundSite b number row size k → DoBoundSite both number row size k
both_site number row size k a b both of in_a in_b = record {
  least_row = omega (arith, of.least_row, in_a.least_row, in_b.least_row);
  least_site = omega (arith, of.least_site, in_a.least_site, in_b.least_site);
  most_site = omega (arith, of.most_site, in_a.most_site, in_b.most_site);
  low = omega (arith, ints, clamps, of.low, in_a.low, in_b.low);
  high = omega (arith, ints, clamps, of.high, in_a.high, in_b.high);
  top = omega (arith, ints, clamps, of.top, in_a.top, in_b.top);
  left = omega (arith, ints, clamps, of.left, in_a.left, in_b.left);
  right = omega (arith, ints, clamps, of.right, in_a.right, in_b.right);
  corner = omega (arith, ints, clamps, of.corner, in_a.corner, in_b.corner);
}

pub fit_both : (design : DesignModel) (lists : List (List Stretch)) (a b both : Bounds) (number : ℕ) → AreOfBoth a b both → DoFit design lists a number
    → DoFit design lists b number → DoFit design lists both number
fit_both design lists a b both number of in_a in_b list at row site is =
    let of_a = in_a list at row site is in
    let of_b = in_b list at row site is in record {
      sites = λ k free. both_site number row site.size k a b both of (of_a.sites k free) (of_b.sites k free);
      longest = λ many first sites.
          let long_a = of_a.longest many first sites in
          let long_b = of_b.longest many first sites in
          omega (arith, of.longest, long_a, long_b);
    }

-- a node below one gets the narrower bounds of both
pub rows_narrowed : (design : DesignModel) (order : List RowKey) (lists : List (List Stretch)) (nodes : List Bounds) (node child : ℕ)
    (own above both : Bounds) → 1 ≤ node → (child ≡ 2 * node) ⊎ (child ≡ 2 * node + 1) → slice_get nodes child ≡ Some own → slice_get nodes node ≡ Some above
    → AreOfBoth own above both
    → AreRowsOf design (record { lists = lists; order = order; nodes = nodes })
    → AreRowsOf design (record { lists = lists; order = order; nodes = set nodes child both })
rows_narrowed design order lists nodes node child own above both some side at_child at_node of rows = record {
  lists = rows.lists;
  inside = rows.inside;
  order = rows.order;
  nodes = nodes_set order (DoFit design lists) nodes child both
      (λ key leaf. fit_both design lists own above both key.row of
      (rows.nodes.fit child own key (elim side [ inl left ↦ omega (arith, left, some) | inr right ↦ omega (arith, right) ]) at_child leaf)
      (rows.nodes.fit node above key some at_node (elim side [
        | inl left ↦ beneath_left order node key (rw left at leaf)
        | inr right ↦ beneath_right order node key (rw right at leaf)
      ])))
      rows.nodes;
}

-- where no node up to one has a list, none is that of it
none_within : (most : ℕ) (lists : List (Option (List Stretch))) (node : ℕ) → ((k : ℕ) → k ≤ node → get_or lists k None ≡ None)
    → list_within most lists node ≡ None
none_within zero lists node none = refl
none_within (suc most) lists zero none = refl
none_within (suc most) lists (suc n) none =
    let below = half_below n in
    let above = none_within most lists (suc n / 2) (λ k upto. none k (omega (arith, upto, below))) in
    let own = none (suc n) (omega arith) in
    rw (above, own) refl

pub none_at : (lists : List (Option (List Stretch))) (node : ℕ) → ((k : ℕ) → k ≤ node → get_or lists k None ≡ None) → list_of_node lists node ≡ None
none_at lists node none = none_within node lists node none

-- before the first node that has a list none has
pub none_before : (lists : List (Option (List Stretch))) (highest node : ℕ) → HaveNoneBefore highest lists → node < max highest 1
    → list_of_node lists node ≡ None
none_before lists highest node none before = elim (cases_eq node 0) [
  | inl first ↦ at_none lists node first
  | inr some ↦ none_at lists node (λ k upto. none k (omega (arith, before, upto, some)))
]

-- Both nodes below one have the same list, which is its own now.
module _ (order : List RowKey) (node : ℕ) (some : 1 ≤ node) (inner : node < length order) (first old : List (Option (List Stretch)))
    (so_far : IsSharedFrom order (node + 1) first old) (is : IsShareable order old node) where
  abbrev pub lifted : List (Option (List Stretch))
  lifted = three_set old (2 * node) node (2 * node + 1) None (Some is.list) None

  lifted_others : (k : ℕ) → IsNotBeneath node k → get_or lifted k None ≡ get_or old k None
  lifted_others k never =
      three_others old (2 * node) node (2 * node + 1) None (Some is.list) None k (λ same. never 1 (inl same)) (λ same. never 0 same)
      (λ same. never 1 (inr same))

  lifted_room : 2 * node + 1 < length old
  lifted_room = let count = so_far.shared.count in omega (arith, count, inner)

  lifted_own : get_or lifted node None ≡ Some is.list
  lifted_own = second_is old (2 * node) node (2 * node + 1) None (Some is.list) None (λ same. omega (arith, some, same)) (omega (arith, lifted_room))

  lifted_before : (k : ℕ) → k < node → get_or lifted k None ≡ None
  lifted_before k below =
      three_others old (2 * node) node (2 * node + 1) None (Some is.list) None k (λ same. omega (arith, below, same)) (λ same. omega (arith, below, same))
      (λ same. omega (arith, below, same))
      ∙ so_far.none k (omega (arith, below))

  half_before : node / 2 < node
  half_before = omega (arith, some)

  pub lifted_shared : IsSharedFrom order node first lifted
  lifted_shared = record {
    shared = record {
      count = three_long old (2 * node) node (2 * node + 1) None (Some is.list) None ∙ so_far.shared.count;
      alike = λ k l begin has. elim (cases_eq k node) [
        | inl same ↦ rw same is.alike
        | inr not_node ↦ elim (cases_eq k (2 * node)) [
          | inl same ↦
              absurd (none-some l (sym (first_is old (2 * node) node (2 * node + 1) None (Some is.list) None (apart_left node some)
              (λ same. omega (arith, same)) (omega (arith, lifted_room))) ∙ ap (λ (n : ℕ). get_or lifted n None) (sym same) ∙ has))
          | inr not_left ↦ elim (cases_eq k (2 * node + 1)) [
            | inl same ↦
                absurd (none-some l (sym (third_is old (2 * node) node (2 * node + 1) None (Some is.list) None lifted_room)
                ∙ ap (λ (n : ℕ). get_or lifted n None) (sym same) ∙ has))
            | inr not_right ↦
                so_far.shared.alike k l begin (sym
                (three_others old (2 * node) node (2 * node + 1) None (Some is.list) None k not_left not_node not_right) ∙ has)
          ]
        ]
      ];
    };
    same =
        same_view order node some inner is.list old lifted lifted_others
        (gives_both node some is.list old (none_at old (node / 2) (λ k upto. so_far.none k (omega (arith, upto, half_before))))
        (so_far.none node (omega arith)) is.left is.right)
        (gives_own node some is.list lifted (none_at lifted (node / 2) (λ k upto. lifted_before k (omega (arith, upto, half_before)))) lifted_own)
        ∙ so_far.same;
    none = lifted_before;
  }
