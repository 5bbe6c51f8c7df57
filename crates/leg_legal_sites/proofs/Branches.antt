-- Nodes of the tree on the way down.
use Rattle.std.proofs.Common.{◌≡◌, ◌⊎◌, ℕ, ◌+◌, ◌*◌, ◌/◌, ◌<◌, ◌≤◌, List, [], length, get_or, Option, None, Some, slice_get, inl, inr, refl, sym, ap, ◌∙◌, arith}
use Rattle.std.specs.Prelude.{unwrap_or, IsSome}
use Rattle.std.specs.Option.{option_or}
use Rattle.std.proofs.lemmas.Option.{slice_get-get_or, slice_get_within}
use Rattle.leg_design_records.specs.Records.{DesignModel}
use Rattle.leg_legal_sites.specs.declared.stretch.Stretch.{Stretch}
use Rattle.leg_legal_sites.specs.declared.bounds.Bounds.{Bounds}
use Rattle.leg_legal_sites.specs.declared.branch.Branch.{Branch}
use Rattle.leg_legal_sites.specs.declared.row_keys.RowKey.{RowKey}
use Rattle.leg_legal_sites.specs.Steps.FreeLists.{AreRowsOf}
use Rattle.leg_legal_sites.specs.Steps.RowOrder.{IsRowOrder}
use Rattle.leg_legal_sites.specs.Steps.TreeOfRows.{IsLeafBeneath}
use Rattle.leg_legal_sites.specs.Steps.FreeListSharing.{list_of_node, row_list, row_lists}
use Rattle.leg_legal_sites.specs.Steps.Branches.{IsBranch, IsLowerBranch}
use Rattle.leg_legal_sites.proofs.ListMoves.{fit_both}
use Rattle.leg_legal_sites.proofs.RowPlaces.{some_is, list_of_key, key_there}
use Rattle.leg_legal_sites.proofs.RowTree.{beneath_left, beneath_right}
use Rattle.leg_legal_sites.proofs.SharedLists.{below_is, half_of_left, half_of_right, row_lists_long, row_list_there}

or_some : (a b : Option (List Stretch)) → IsSome a → option_or a b ≡ a
or_some a b is = let s = some_is a is in rw s.1 refl

module _ (design : DesignModel) (order : List RowKey) (lists : List (Option (List Stretch))) (nodes : List Bounds)
    (rows : AreRowsOf design (record { lists = row_lists order lists; order = order; nodes = nodes }))
    (above : Branch) (is : IsBranch design order lists above) where
  -- a branch that goes on is one too
  pub branch_below : (node : ℕ) (branch : Branch) → above.node < length order → (node ≡ 2 * above.node) ⊎ (node ≡ 2 * above.node + 1)
      → IsLowerBranch lists nodes above node branch → IsBranch design order lists branch
  branch_below node branch inner side below = record {
    first = let first = is.first in omega (arith, below.here, some, first);
    within = omega (arith, below.here, within);
    owned = elim below.owner [
      | inl both ↦ let owned = is.owned in omega (arith, both.1, owned)
      | inr both ↦ omega (arith, both.1, within)
    ];
    owner = elim below.owner [
      | inl both ↦ ap (λ (n : ℕ). get_or lists n None) both.1 ∙ sym (here_is ∙ or_some (get_or lists above.owner None) (get_or lists node None) both.0)
      | inr both ↦ ap (λ (n : ℕ). get_or lists n None) both.1 ∙ sym (here_is ∙ ap (λ o. option_or o (get_or lists node None)) both.0)
    ];
    fits = λ key leaf.
        let low : IsLeafBeneath order node key = rw below.here at leaf in
        let own : Bounds = get_or nodes node above.bounds in
        let there : slice_get nodes node ≡ Some own = slice_get-get_or nodes node above.bounds (let count = rows.nodes.count in omega (arith, within, count)) in
        let own_fits = rows.nodes.fit node own key some there low in
        elim (below.bounds own there) [
          | inl both ↦ fit_both design (row_lists order lists) own above.bounds branch.bounds key.row both own_fits
              (is.fits key (elim side [
                | inl left ↦ beneath_left order above.node key (rw left at low)
                | inr right ↦ beneath_right order above.node key (rw right at low)
              ]))
          | inr same ↦ rw same own_fits
        ];
  } where
    some : 1 ≤ node
    some = let first = is.first in elim side [ inl left ↦ omega (arith, left, first) | inr right ↦ omega (arith, right) ]

    within : node < 2 * length order
    within = elim side [ inl left ↦ omega (arith, left, inner) | inr right ↦ omega (arith, right, inner) ]

    half : node / 2 ≡ above.node
    half = elim side [ inl left ↦ ap (λ (n : ℕ). n / 2) left ∙ half_of_left above.node | inr right ↦ ap (λ (n : ℕ). n / 2) right ∙ half_of_right above.node ]

    here_is : list_of_node lists branch.node ≡ option_or (get_or lists above.owner None) (get_or lists node None)
    here_is = ap (list_of_node lists) below.here ∙ below_is lists above.node node some half ∙ ap (λ o. option_or o (get_or lists node None)) (sym is.owner)

-- the row of a leaf has the list of its node
pub leaf_list : (design : DesignModel) (order : List RowKey) (lists : List (Option (List Stretch))) → IsRowOrder design.rows order
    → length (row_lists order lists) ≡ length design.rows → (place : ℕ) (key : RowKey) → slice_get order place ≡ Some key
    → slice_get (row_lists order lists) key.row ≡ Some (unwrap_or (list_of_node lists (length order + place)) [])
leaf_list design order lists is_order count place key there =
    let of = key_there design.rows order is_order place key there in
    let below = slice_get_within design.rows key.row of.row of.there in
    let at = row_list_there order lists key.row (let long = row_lists_long order lists in omega (arith, below, long, count)) in
    at ∙ ap Some (list_of_key design.rows order is_order lists place key (row_list order lists key.row) there at)

-- the two branches that go on, whichever comes first
abbrev pub AreBothBelow : List (Option (List Stretch)) → List Bounds → Branch → Branch → Branch → Type 0
AreBothBelow lists nodes above first last =
    (IsLowerBranch lists nodes above (2 * above.node) first × IsLowerBranch lists nodes above (2 * above.node + 1) last)
    ⊎ (IsLowerBranch lists nodes above (2 * above.node + 1) first × IsLowerBranch lists nodes above (2 * above.node) last)

pub sides_below : (lists : List (Option (List Stretch))) (nodes : List Bounds) (above first last : Branch) → AreBothBelow lists nodes above first last
    → ((first.node ≡ 2 * above.node) × (last.node ≡ 2 * above.node + 1)) ⊎ ((first.node ≡ 2 * above.node + 1) × (last.node ≡ 2 * above.node))
sides_below lists nodes above first last (inl both) = inl (both.0.here, both.1.here)
sides_below lists nodes above first last (inr both) = inr (both.0.here, both.1.here)

-- both have higher numbers
pub first_further : (lists : List (Option (List Stretch))) (nodes : List Bounds) (above first last : Branch) → 1 ≤ above.node
    → AreBothBelow lists nodes above first last → above.node < first.node
first_further lists nodes above first last some (inl both) = omega (arith, some, both.0.here)
first_further lists nodes above first last some (inr both) = omega (arith, some, both.0.here)

pub last_further : (lists : List (Option (List Stretch))) (nodes : List Bounds) (above first last : Branch) → 1 ≤ above.node
    → AreBothBelow lists nodes above first last → above.node < last.node
last_further lists nodes above first last some (inl both) = omega (arith, some, both.1.here)
last_further lists nodes above first last some (inr both) = omega (arith, some, both.1.here)

module _ (design : DesignModel) (order : List RowKey) (lists : List (Option (List Stretch))) (nodes : List Bounds)
    (rows : AreRowsOf design (record { lists = row_lists order lists; order = order; nodes = nodes }))
    (above first last : Branch) (is : IsBranch design order lists above) (inner : above.node < length order) where
  pub first_is : AreBothBelow lists nodes above first last → IsBranch design order lists first
  first_is (inl both) = branch_below design order lists nodes rows above is (2 * above.node) first inner (inl refl) both.0
  first_is (inr both) = branch_below design order lists nodes rows above is (2 * above.node + 1) first inner (inr refl) both.0

  pub last_is : AreBothBelow lists nodes above first last → IsBranch design order lists last
  last_is (inl both) = branch_below design order lists nodes rows above is (2 * above.node + 1) last inner (inr refl) both.1
  last_is (inr both) = branch_below design order lists nodes rows above is (2 * above.node) last inner (inl refl) both.1
