-- Which list a row has, of those at the nodes of the tree.
use Rattle.std.proofs.Common.{◌≡◌, ◌≢◌, ◌⊎◌, ℕ, zero, suc, ◌+◌, ◌*◌, ◌/◌, ◌<◌, ◌≤◌, Bool, true, false, List, [], ◌∷◌, length, get_or, Option, None, Some, slice_get, inl, inr, refl, sym, ap, ◌∙◌, arith}
use Rattle.std.specs.Prelude.{unwrap_or, is_some}
use Rattle.std.specs.Option.{option_or}
use Rattle.std.proofs.lemmas.Bool.{cases_eq, false≢true}
use Rattle.std.proofs.lemmas.List.{get_or_default}
use Rattle.leg_legal_sites.specs.declared.stretch.Stretch.{Stretch}
use Rattle.leg_legal_sites.specs.declared.row_keys.RowKey.{RowKey}
use Rattle.leg_legal_sites.specs.Steps.TreeOfRows.{IsLevelsBeneath}
use Rattle.leg_legal_sites.specs.Steps.FreeListSharing.{list_within, list_of_node, place_of_row, row_list, lists_from, row_lists}
use Rattle.leg_legal_sites.proofs.RowTree.{not_before, one_lower, half}

-- a number is twice its half, or one more
pub halves : (q : ℕ) → (q ≡ 2 * (q / 2)) ⊎ (q ≡ 2 * (q / 2) + 1)
halves q = let h = half q in elim h.is [ inl even ↦ inl (omega (arith, even)) | inr odd ↦ inr (omega (arith, odd)) ]

pub half_of_left : (n : ℕ) → 2 * n / 2 ≡ n
half_of_left n = omega arith

pub half_of_right : (n : ℕ) → (2 * n + 1) / 2 ≡ n
half_of_right n = omega arith

pub half_below : (n : ℕ) → suc n / 2 ≤ n
half_below n = omega arith

-- a way that is long enough may be longer
enough : (most more : ℕ) (lists : List (Option (List Stretch))) (node : ℕ) → node ≤ most → node ≤ more
    → list_within most lists node ≡ list_within more lists node
enough zero zero lists node short long = refl
enough zero (suc more) lists zero short long = refl
enough zero (suc more) lists (suc n) short long = absurd (omega (arith, short))
enough (suc most) zero lists zero short long = refl
enough (suc most) zero lists (suc n) short long = absurd (omega (arith, long))
enough (suc most) (suc more) lists zero short long = refl
enough (suc most) (suc more) lists (suc n) short long =
    let below = half_below n in
    ap (λ o. option_or o (get_or lists (suc n) None)) (enough most more lists (suc n / 2) (omega (arith, short, below)) (omega (arith, long, below)))

-- what a node has from those above it, or its own list
pub at_step : (lists : List (Option (List Stretch))) (node : ℕ) → 1 ≤ node
    → list_of_node lists node ≡ option_or (list_of_node lists (node / 2)) (get_or lists node None)
at_step lists zero some = absurd (omega (arith, some))
at_step lists (suc n) some =
    ap (λ o. option_or o (get_or lists (suc n) None)) (enough n (suc n / 2) lists (suc n / 2) (half_below n) (omega arith))

pub at_none : (lists : List (Option (List Stretch))) (node : ℕ) → node ≡ 0 → list_of_node lists node ≡ None
at_none lists node none = rw none refl

-- below a node
pub below_is : (lists : List (Option (List Stretch))) (node other : ℕ) → 1 ≤ other → other / 2 ≡ node
    → list_of_node lists other ≡ option_or (list_of_node lists node) (get_or lists other None)
below_is lists node other some half = at_step lists other some ∙ ap (λ (n : ℕ). option_or (list_of_node lists n) (get_or lists other None)) half

below_has : (lists : List (Option (List Stretch))) (node other : ℕ) (list : List Stretch) → 1 ≤ other → other / 2 ≡ node → list_of_node lists node ≡ Some list
    → list_of_node lists other ≡ Some list
below_has lists node other list some half has = below_is lists node other some half ∙ ap (λ o. option_or o (get_or lists other None)) has

-- where no node above has a list, a node has its own
pub own_is : (lists : List (Option (List Stretch))) (node other : ℕ) → 1 ≤ other → other / 2 ≡ node → list_of_node lists node ≡ None
    → list_of_node lists other ≡ get_or lists other None
own_is lists node other some half none = below_is lists node other some half ∙ ap (λ o. option_or o (get_or lists other None)) none

none_of_or : (a b : Option (List Stretch)) → option_or a b ≡ None → a ≡ None
none_of_or None b none = refl
none_of_or (Some x) b none = none

-- where a node has no list, those above it have none
pub none_above : (lists : List (Option (List Stretch))) (node other : ℕ) → 1 ≤ other → other / 2 ≡ node → list_of_node lists other ≡ None
    → list_of_node lists node ≡ None
none_above lists node other some half none = none_of_or (list_of_node lists node) (get_or lists other None) (sym (below_is lists node other some half) ∙ none)

-- beneath a node that has a list all have it
pub from_above : (levels node other : ℕ) (lists : List (Option (List Stretch))) (list : List Stretch) → 1 ≤ node → IsLevelsBeneath levels node other
    → list_of_node lists node ≡ Some list → list_of_node lists other ≡ Some list
from_above zero node other lists list some same has = ap (list_of_node lists) same ∙ has
from_above (suc levels) node other lists list some (inl left) has =
    from_above levels (2 * node) other lists list (omega (arith, some)) left
    (below_has lists node (2 * node) list (omega (arith, some)) (half_of_left node) has)
from_above (suc levels) node other lists list some (inr right) has =
    from_above levels (2 * node + 1) other lists list (omega arith) right (below_has lists node (2 * node + 1) list (omega arith) (half_of_right node) has)

pub record IsBeneath (node other : ℕ) : Type 0 where
  pub levels : ℕ
  pub beneath : IsLevelsBeneath levels node other

abbrev pub IsNotBeneath : ℕ → ℕ → Type 0
IsNotBeneath node other = (levels : ℕ) → ¬ IsLevelsBeneath levels node other

-- the node above one that lies beneath another, and isn't that one, does too
one_higher : (levels node other : ℕ) → IsLevelsBeneath (suc levels) node other → IsLevelsBeneath levels node (other / 2)
one_higher zero node other (inl same) = omega (arith, same)
one_higher zero node other (inr same) = omega (arith, same)
one_higher (suc levels) node other (inl left) = inl (one_higher levels (2 * node) other left)
one_higher (suc levels) node other (inr right) = inr (one_higher levels (2 * node + 1) other right)

not_beneath : (node other : ℕ) → other ≢ node → IsNotBeneath node (other / 2) → IsNotBeneath node other
not_beneath node other differ never zero same = differ same
not_beneath node other differ never (suc levels) beneath = never levels (one_higher levels node other beneath)

-- a node lies beneath another or not
pub decide_beneath : (most node other : ℕ) → other ≤ most → 1 ≤ node → IsBeneath node other ⊎ IsNotBeneath node other
decide_beneath zero node other upto some = inr (λ levels beneath. let from = not_before levels node other beneath in omega (arith, from, upto, some))
decide_beneath (suc most) node other upto some =
    elim (cases_eq other node) [
      | inl same ↦ inl (record { levels = 0; beneath = same })
      | inr differ ↦
          elim (cases_eq other 0) [
            | inl none ↦ inr (λ levels beneath. let from = not_before levels node other beneath in omega (arith, from, none, some))
            | inr more ↦
                elim (decide_beneath most node (other / 2) (omega (arith, upto, more)) some) [
                  | inl is ↦ inl (record { levels = suc is.levels; beneath = one_lower is.levels node (other / 2) other is.beneath (halves other) })
                  | inr never ↦ inr (not_beneath node other differ never)
                ]
          ]
    ]

module _ (old new : List (Option (List Stretch))) (node : ℕ) (others : (k : ℕ) → IsNotBeneath node k → get_or new k None ≡ get_or old k None) where
  -- a list that changes beneath a node is that of no node elsewhere
  pub same_elsewhere : (most other : ℕ) → other ≤ most → IsNotBeneath node other → list_of_node new other ≡ list_of_node old other
  same_elsewhere zero other upto never = let none : other ≡ 0 = omega (arith, upto) in at_none new other none ∙ sym (at_none old other none)
  same_elsewhere (suc most) other upto never =
      elim (cases_eq other 0) [
        | inl none ↦ at_none new other none ∙ sym (at_none old other none)
        | inr some ↦
            let above =
            same_elsewhere most (other / 2) (omega (arith, upto, some))
            (λ levels beneath. never (suc levels) (one_lower levels node (other / 2) other beneath (halves other))) in
            at_step new other (omega (arith, some))
            ∙ ap (λ o. option_or o (get_or new other None)) above
            ∙ ap (λ o. option_or (list_of_node old (other / 2)) o) (others other never)
            ∙ sym (at_step old other (omega (arith, some)))
      ]

  -- the node above isn't beneath it
  pub same_above : 1 ≤ node → list_of_node new (node / 2) ≡ list_of_node old (node / 2)
  same_above some =
      same_elsewhere (node / 2) (node / 2) (omega arith) (λ levels beneath. let from = not_before levels node (node / 2) beneath in omega (arith, from, some))

-- Lists of rows by their numbers.
module _ (order : List RowKey) (lists : List (Option (List Stretch))) where
  pub length_from : (more from : ℕ) → length (lists_from order lists more from) ≡ more
  length_from zero from = refl
  length_from (suc more) from = ap suc (length_from more (from + 1))

  get_from : (more from number : ℕ) → number < more → slice_get (lists_from order lists more from) number ≡ Some (row_list order lists (from + number))
  get_from zero from number below = absurd (omega (arith, below))
  get_from (suc more) from zero below = let here : from ≡ from + 0 = omega arith in ap (λ (n : ℕ). Some (row_list order lists n)) here
  get_from (suc more) from (suc number) below =
      let here : from + 1 + number ≡ from + suc number = omega arith in
      get_from more (from + 1) number (omega (arith, below)) ∙ ap (λ (n : ℕ). Some (row_list order lists n)) here

  pub row_lists_long : length (row_lists order lists) ≡ length order
  row_lists_long = length_from (length order) 0

  pub row_list_there : (number : ℕ) → number < length order → slice_get (row_lists order lists) number ≡ Some (row_list order lists number)
  row_list_there number below = let here : 0 + number ≡ number = omega arith in
      get_from (length order) 0 number below ∙ ap (λ (n : ℕ). Some (row_list order lists n)) here

module _ (order : List RowKey) (old new : List (Option (List Stretch)))
    (same : (leaf : ℕ) → length order ≤ leaf → list_of_node new leaf ≡ list_of_node old leaf) where
  same_from : (more from : ℕ) → lists_from order new more from ≡ lists_from order old more from
  same_from zero from = refl
  same_from (suc more) from =
      ap (λ o. unwrap_or o [] ∷ lists_from order new more (from + 1)) (same (length order + place_of_row order from) (omega arith))
      ∙ ap (λ l. row_list order old from ∷ l) (same_from more (from + 1))

  -- rows whose leaves have the same lists have the same free sites
  pub same_rows : row_lists order new ≡ row_lists order old
  same_rows = same_from (length order) 0

-- a node on the way down to a leaf
pub record IsOnWayDown (leaves node other : ℕ) : Type 0 where
  pub first : 1 ≤ other
  pub within : other < 2 * leaves
  pub levels : ℕ
  pub beneath : IsLevelsBeneath levels node other

pub way_begins : (leaves node : ℕ) → 1 ≤ node → node < 2 * leaves → IsOnWayDown leaves node node
way_begins leaves node first within = record { first = first; within = within; levels = 0; beneath = refl }

pub way_goes_left : (leaves node other : ℕ) → IsOnWayDown leaves node other → other < leaves → IsOnWayDown leaves node (other * 2)
way_goes_left leaves node other way inner = record {
  first = omega (arith, way.first);
  within = omega (arith, inner);
  levels = suc way.levels;
  beneath = one_lower way.levels node other (other * 2) way.beneath (inl (omega arith));
}

-- the list at a node, whatever stands where there is none
module _ (lists : List (Option (List Stretch))) (node : ℕ) (within : node < length lists) where
  pub node_has : (d : Option (List Stretch)) (b : Bool) → b ≡ is_some (get_or lists node d) → b ≡ is_some (get_or lists node None)
  node_has d b same = same ∙ ap is_some (get_or_default lists node d None within)

  pub node_read : (r : Option (List Stretch)) → r ≡ get_or lists node r → get_or lists node None ≡ r
  node_read r is = get_or_default lists node None r within ∙ sym is

-- what the nodes above have, or else the owner so far, is what a node has
pub record IsOwnerSoFar (lists : List (Option (List Stretch))) (node owner above : ℕ) : Type 0 where
  pub within : owner < length lists
  pub before : above < length lists
  pub is : option_or (list_of_node lists above) (get_or lists owner None) ≡ list_of_node lists node

pub owner_begins : (lists : List (Option (List Stretch))) (node : ℕ) → 1 ≤ node → node < length lists → IsOwnerSoFar lists node node (node / 2)
owner_begins lists node some there = record { within = there; before = omega (arith, there); is = sym (at_step lists node some) }

or_of_some : (a b c : Option (List Stretch)) → is_some b ≡ true → option_or (option_or a b) c ≡ option_or a b
or_of_some None None c is = absurd (false≢true is)
or_of_some None (Some y) c is = refl
or_of_some (Some x) b c is = refl

or_of_none : (a b c : Option (List Stretch)) → is_some b ≡ false → option_or (option_or a b) c ≡ option_or a c
or_of_none None None c is = refl
or_of_none None (Some y) c is = absurd (false≢true (sym is))
or_of_none (Some x) b c is = refl

-- one more node above has a list, or none
pub owner_higher : (lists : List (Option (List Stretch))) (node owner above : ℕ) → 1 ≤ above → is_some (get_or lists above None) ≡ true
    → IsOwnerSoFar lists node owner above → IsOwnerSoFar lists node above (above / 2)
owner_higher lists node owner above some has so_far = let before = so_far.before in record {
  within = before;
  before = omega (arith, before);
  is =
      sym (or_of_some (list_of_node lists (above / 2)) (get_or lists above None) (get_or lists owner None) has)
      ∙ ap (λ o. option_or o (get_or lists owner None)) (sym (at_step lists above some))
      ∙ so_far.is;
}

pub owner_stays : (lists : List (Option (List Stretch))) (node owner above : ℕ) → 1 ≤ above → is_some (get_or lists above None) ≡ false
    → IsOwnerSoFar lists node owner above → IsOwnerSoFar lists node owner (above / 2)
owner_stays lists node owner above some none so_far = let before = so_far.before in record {
  within = so_far.within;
  before = omega (arith, before);
  is =
      sym (or_of_none (list_of_node lists (above / 2)) (get_or lists above None) (get_or lists owner None) none)
      ∙ ap (λ o. option_or o (get_or lists owner None)) (sym (at_step lists above some))
      ∙ so_far.is;
}

pub owner_found : (lists : List (Option (List Stretch))) (node owner above : ℕ) → list_of_node lists above ≡ None → IsOwnerSoFar lists node owner above
    → get_or lists owner None ≡ list_of_node lists node
owner_found lists node owner above none so_far = ap (λ o. option_or o (get_or lists owner None)) (sym none) ∙ so_far.is

-- where a node has no list of those above it, another one has none
pub record IsAloneUpTo (lists : List (Option (List Stretch))) (node above : ℕ) : Type 0 where
  pub before : above < length lists
  pub alone : list_of_node lists above ≡ None → list_of_node lists (node / 2) ≡ None

pub alone_begins : (lists : List (Option (List Stretch))) (node : ℕ) → node < length lists → IsAloneUpTo lists node (node / 2)
alone_begins lists node there = record { before = omega (arith, there); alone = λ none. none }

or_of_nones : (a b : Option (List Stretch)) → is_some b ≡ false → a ≡ None → option_or a b ≡ None
or_of_nones None None is none = refl
or_of_nones None (Some y) is none = absurd (false≢true (sym is))
or_of_nones (Some x) b is none = none

pub alone_higher : (lists : List (Option (List Stretch))) (node above : ℕ) → 1 ≤ above → is_some (get_or lists above None) ≡ false
    → IsAloneUpTo lists node above → IsAloneUpTo lists node (above / 2)
alone_higher lists node above some none so_far = let before = so_far.before in record {
  before = omega (arith, before);
  alone = λ higher. so_far.alone (at_step lists above some ∙ or_of_nones (list_of_node lists (above / 2)) (get_or lists above None) none higher);
}

pub alone_found : (lists : List (Option (List Stretch))) (node above : ℕ) → list_of_node lists above ≡ None → IsAloneUpTo lists node above
    → list_of_node lists (node / 2) ≡ None
alone_found lists node above none so_far = so_far.alone none

-- a list that isn't there
pub none_from : (list : Option (List Stretch)) → is_some list ≡ false → list ≡ None
none_from None is = refl
none_from (Some x) is = absurd (false≢true (sym is))
