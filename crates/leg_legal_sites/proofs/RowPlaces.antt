-- At which place of the order a row's key stands, and which list the row has.
use Rattle.std.proofs.Common.{◌≡◌, ◌≢◌, ◌⊎◌, ℕ, zero, suc, ◌+◌, ◌/◌, ◌<◌, ◌≤◌, Bool, true, Decides, List, [], ◌∷◌, ◌++◌, take, length, get_or, append-nil, Option, None, Some, slice_get, inl, inr, refl, sym, ap, ◌∙◌, arith}
use Rattle.std.specs.Prelude.{unwrap_or, IsSome}
use Rattle.std.specs.Cmp.Lexicographic.{pointwise}
use Rattle.std.proofs.Math.Seq.{take-suc}
use Rattle.std.proofs.lemmas.Bool.Decides.{Decides-and, Decides-like, Decides-eqb}
use Rattle.std.proofs.lemmas.Slice.Eq.{slice_eq-Decides}
use Rattle.leg_legal_sites.specs.contracts.stretch.StretchPartialEq.TheImpl as stretch_eq
use Rattle.leg_legal_sites.specs.Steps.Parts.{all_of}
use Rattle.std.proofs.lemmas.Bool.{false≢true}
use Rattle.std.proofs.lemmas.Int.{ints}
use Rattle.std.proofs.lemmas.Option.{same_Some, none-some, slice_get_within, get_or_from_slice_get}
use Rattle.leg_lib_records.specs.declared.records.Site.{Site}
use Rattle.leg_design_records.specs.declared.records.Row.{Row}
use Rattle.leg_design_records.specs.Records.{DesignModel}
use Rattle.leg_legal_sites.specs.declared.stretch.Stretch.{Stretch}
use Rattle.leg_legal_sites.specs.declared.row_keys.RowKey.{RowKey}
use Rattle.leg_legal_sites.specs.Steps.RowOrder.{IsKeyOf, IsBefore, IsRowOrder}
use Rattle.leg_legal_sites.specs.Steps.FreeLists.{IsRowAt}
use Rattle.leg_legal_sites.specs.Steps.TreeOfRows.{IsLeafBeneath}
use Rattle.leg_legal_sites.specs.Steps.FreeListSharing.{list_of_node, place_of_row, row_list, row_lists}
use Rattle.leg_legal_sites.specs.Steps.SharedLists.{own_list, HaveAlikeLists}
use Rattle.leg_legal_sites.proofs.RowTree.{leaf_alone}
use Rattle.leg_legal_sites.proofs.SharedLists.{own_is, from_above, row_lists_long, row_list_there}

place_is : (order : List RowKey) (number place : ℕ) (key : RowKey) → slice_get order place ≡ Some key → key.row ≡ number
    → ((i : ℕ) (a : RowKey) → i < place → slice_get order i ≡ Some a → a.row ≢ number) → place_of_row order number ≡ place
place_is [] number place key there same before = absurd (none-some key there)
place_is (k ∷ ks) number zero key there same before =
    let one : k ≡ key = same_Some k key there in
    let is : k.row ≡ number = ap (λ (k : RowKey). k.row) one ∙ same in
    grind (arith, is)
place_is (k ∷ ks) number (suc place) key there same before =
    let differ : k.row ≢ number = before 0 k (omega arith) refl in
    let rest = place_is ks number place key there same (λ i a below at. before (suc i) a (omega (arith, below)) at) in
    grind (arith, differ, rest)

-- what there is has a value
pub some_is : {X : Type 0} (o : Option X) → IsSome o → (x : X) × (o ≡ Some x)
some_is None is = absurd (false≢true is)
some_is (Some x) is = (x, refl)

module _ (rows : List Row) (order : List RowKey) (is_order : IsRowOrder rows order) where
  pub key_there : (place : ℕ) (key : RowKey) → slice_get order place ≡ Some key → IsKeyOf rows key
  key_there place key there = (is_order.keys key).0 (place, slice_get_within order place key there, get_or_from_slice_get order place key key there)

  -- two keys at different places aren't those of one row
  other_rows : (i j : ℕ) (a b : RowKey) → i < j → slice_get order i ≡ Some a → slice_get order j ≡ Some b → a.row ≢ b.row
  other_rows i j a b below at_i at_j same =
      let of_a = key_there i a at_i in
      let of_b = key_there j b at_j in
      let one : of_a.row ≡ of_b.row = same_Some of_a.row of_b.row (sym of_a.there ∙ ap (slice_get rows) same ∙ of_b.there) in
      let site : a.site ≡ b.site = of_a.site ∙ ap (λ (r : Row). r.site) one ∙ sym of_b.site in
      let y : a.y ≡ b.y = of_a.bottom ∙ ap (λ (r : Row). r.at.y) one ∙ sym of_b.bottom in
      let x : a.x ≡ b.x = of_a.left ∙ ap (λ (r : Row). r.at.x) one ∙ sym of_b.left in
      let read_a : get_or order i a ≡ a = get_or_from_slice_get order i a a at_i in
      let read_b : get_or order j a ≡ b = get_or_from_slice_get order j b a at_j in
      let before : IsBefore a b = let h = is_order.rising i j a below (slice_get_within order j b at_j) in rw (read_a, read_b) at h in
      elim before [
        | inl lower ↦ omega (arith, lower, site)
        | inr level ↦ elim level.1 [
          | inl below ↦ omega (arith, ints, below, y)
          | inr on ↦ elim on.1 [
            | inl left ↦ omega (arith, ints, left, x)
            | inr there ↦ omega (arith, there.1, same)
          ]
        ]
      ]

  pub place_of_key : (place : ℕ) (key : RowKey) → slice_get order place ≡ Some key → place_of_row order key.row ≡ place
  place_of_key place key there = place_is order key.row place key there refl (λ i a below at same. other_rows i place a key below at there same)

  module _ (lists : List (Option (List Stretch))) where
    -- the list of the row of a key is that of its leaf
    pub list_of_key : (place : ℕ) (key : RowKey) (list : List Stretch) → slice_get order place ≡ Some key
        → slice_get (row_lists order lists) key.row ≡ Some list → list ≡ unwrap_or (list_of_node lists (length order + place)) []
    list_of_key place key list there at =
        let below = slice_get_within (row_lists order lists) key.row list at in
        let long = row_lists_long order lists in
        same_Some list (row_list order lists key.row) (sym at ∙ row_list_there order lists key.row (omega (arith, below, long)))
        ∙ ap (λ (n : ℕ). unwrap_or (list_of_node lists (length order + n)) []) (place_of_key place key there)

    -- where no node above has a list, the rows beneath a node that has one have it, and the row of a leaf has its leaf's
    pub own_row : (node : ℕ) (key : RowKey) (list : List Stretch) → IsLeafBeneath order node key → 1 ≤ node → list_of_node lists (node / 2) ≡ None
        → (length order ≤ node) ⊎ IsSome (get_or lists node None) → slice_get (row_lists order lists) key.row ≡ Some list → list ≡ own_list lists node
    own_row node key list leaf some alone either at =
        let own : list_of_node lists node ≡ get_or lists node None = own_is lists (node / 2) node some refl alone in
        let is = list_of_key leaf.place key list leaf.there at in
        elim either [
          | inl from ↦
              let here : length order + leaf.place ≡ node = sym (leaf_alone order node key leaf from) in
              is ∙ ap (λ (n : ℕ). unwrap_or (list_of_node lists n) []) here ∙ ap (λ o. unwrap_or o []) own
          | inr has ↦
              let l = some_is (get_or lists node None) has in
              is ∙ ap (λ o. unwrap_or o []) (from_above leaf.levels node (length order + leaf.place) lists l.0 some leaf.beneath (own ∙ l.1) ∙ sym l.1)
        ]

-- rows beneath a node whose rows are alike begin at one x, and are of one site
pub alike_rows : (design : DesignModel) (order : List RowKey) (node : ℕ) (a b : RowKey) (row other : Row) (site its : Site) → IsRowOrder design.rows order
    → HaveAlikeLists order node → IsLeafBeneath order node a → IsLeafBeneath order node b → IsRowAt design a.row row site → IsRowAt design b.row other its
    → (other.at.x ≡ row.at.x) × (its ≡ site)
alike_rows design order node a b row other site its is_order alike leaf_a leaf_b at_a at_b =
    let same = alike b a leaf_b leaf_a in
    let of_a = key_there design.rows order is_order leaf_a.place a leaf_a.there in
    let of_b = key_there design.rows order is_order leaf_b.place b leaf_b.there in
    let row_a : of_a.row ≡ row = same_Some of_a.row row (sym of_a.there ∙ at_a.there) in
    let row_b : of_b.row ≡ other = same_Some of_b.row other (sym of_b.there ∙ at_b.there) in
    let x : other.at.x ≡ row.at.x = ap (λ (r : Row). r.at.x) (sym row_b) ∙ sym of_b.left ∙ same.0 ∙ of_a.left ∙ ap (λ (r : Row). r.at.x) row_a in
    let one : other.site ≡ row.site = ap (λ (r : Row). r.site) (sym row_b) ∙ sym of_b.site ∙ same.1 ∙ of_a.site ∙ ap (λ (r : Row). r.site) row_a in
    (x, same_Some its site (sym at_b.sited ∙ ap (slice_get design.library.sites) one ∙ at_a.sited))

stretches_decide : (xs ys : List Stretch) → Decides (pointwise stretch_eq.ghosts.eq xs ys) (xs ≡ ys)
stretches_decide xs ys = slice_eq-Decides stretch_decides xs ys (pointwise stretch_eq.ghosts.eq xs ys) refl where
  stretch_decides : (a b : Stretch) → Decides (stretch_eq.ghosts.eq a b) (a ≡ b)
  stretch_decides a b =
      Decides-like _
      (λ p. λ i. record { from = p.0 i; end = p.1 i })
      (λ e. (ap (λ (s : Stretch). s.from) e, ap (λ (s : Stretch). s.end) e))
      (Decides-and _ _ (Decides-eqb a.from b.from) (Decides-eqb a.end b.end))

-- two lists of one part of the same stretches are the same
one_part_is : (parts : List (List Stretch)) (p : List Stretch) → length parts ≡ 1 → get_or parts 0 p ≡ p → all_of parts ≡ p
one_part_is [] p one is = absurd (omega (arith, one))
one_part_is (q ∷ []) p one is = append-nil q ∙ is
one_part_is (q ∷ r ∷ rest) p one is = absurd (omega (arith, one))

pub same_parts : (a b : List (List Stretch)) (p q : List Stretch) (r : Bool) → length a ≡ 1 → length b ≡ 1 → p ≡ get_or a 0 p → q ≡ get_or b 0 q
    → r ≡ pointwise stretch_eq.ghosts.eq p q → r ≡ true → all_of a ≡ all_of b
same_parts a b p q r one_a one_b is_p is_q test is =
    one_part_is a p one_a (sym is_p) ∙ (stretches_decide p q).0 (sym test ∙ is) ∙ sym (one_part_is b q one_b (sym is_q))

-- one more of some lists
pub one_more_taken : (items some : List (List Stretch)) (i : ℕ) (copy item : List Stretch) → i < length items → some ≡ take i items → copy ≡ item
    → item ≡ get_or items i item → some ++ copy ∷ [] ≡ take (i + 1) items
one_more_taken items some i copy item within is same there =
    let next : i + 1 ≡ suc i = omega arith in
    rw next (ap (λ l. l ++ copy ∷ []) is ∙ ap (λ (x : List Stretch). take i items ++ x ∷ []) (same ∙ there) ∙ sym (take-suc items i item within))
