-- The rectangle meets none beneath the node, or is taken from its list, or from the rows beneath the nodes below it.
use Rattle.std.proofs.Common.{◌≡◌, ◌+◌, ◌*◌, ◌/◌, ◌-◌, ◌<◌, ◌≤◌, List, length, get_or, pos, None, inl, inr, refl, sym, subst, ap, ◌∙◌, arith, rules}
use Rattle.std.proofs.lemmas.Bool.{cases_lt, false≢true}
use Rattle.std.proofs.lemmas.Option.{slice_get-get_or}
use Rattle.leg_legal_sites.specs.declared.stretch.Stretch.{Stretch}
use Rattle.leg_legal_sites.specs.declared.bounds.Bounds.{Bounds}
use Rattle.leg_legal_sites.specs.Steps.FreeLists.{AreRowsOf}
use Rattle.leg_legal_sites.specs.Steps.FreeListSharing.{list_of_node, row_lists}
use Rattle.leg_legal_sites.specs.Steps.FreeRows.{AreTakenBeneath}
use Rattle.leg_legal_sites.specs.Steps.SharedLists.{AreShared}
use Rattle.leg_legal_sites.proofs.RowTree.{cover_below}
use Rattle.leg_legal_sites.proofs.TakenRows.{taken_beside, taken_both, rows_joined}
use Rattle.leg_legal_sites.proofs.SharedLists.{half_of_left, half_of_right, none_above}
use Rattle.leg_legal_sites.proofs.rows_taken.+take_beneath.Goals as goal

abbrev none : Bounds
none = record { least_row = 0; least_site = 0; most_site = 0; low = pos 0; high = pos 0; top = pos 0; left = pos 0; right = pos 0; corner = pos 0; longest = 0 }

pub returns-then-is_beside-clause-taken : goal.returns-then-is_beside-clause-taken
returns-then-is_beside-clause-taken g t c =
    let nodes = c.args.nodes.now in
    taken_beside c.args.design.now c.args.rect.now c.args.order.now (row_lists c.args.order.now c.args.lists.now) nodes c.args.node
    (get_or nodes c.args.node none) c.requires.first c.requires.rows (slice_get-get_or nodes c.args.node none c.requires.there)
    (c.is_beside.ensures c.if-is_beside.true)

pub is_met_throughout-requires-clause-list : goal.is_met_throughout-requires-clause-list
is_met_throughout-requires-clause-list g t c =
    let lists = c.requires.shared.count in
    let nodes = c.requires.rows.nodes.count in
    let there = c.requires.there in
    omega (arith, lists, nodes, there)

pub take_at-requires-clause-list : goal.take_at-requires-clause-list
take_at-requires-clause-list g t c =
    let lists = c.requires.shared.count in
    let nodes = c.requires.rows.nodes.count in
    let there = c.requires.there in
    omega (arith, lists, nodes, there)

pub take_at-requires-clause-met : goal.take_at-requires-clause-met
take_at-requires-clause-met g t c = c.is_met_throughout.ensures.met c.if-is_met_throughout.true

pub hand_down-requires-clause-there : goal.hand_down-requires-clause-there
hand_down-requires-clause-there g t c = elim (cases_lt c.args.node (length c.args.order.now)) [
  | inl inner ↦ inner
  | inr from ↦ absurd (false≢true (sym c.if-is_met_throughout.false ∙ c.is_met_throughout.ensures.inner from))
]

pub hand_down-requires-clause-left : goal.hand_down-requires-clause-left
hand_down-requires-clause-left g t c =
    let inner : c.args.node < length c.args.order.now = elim (cases_lt c.args.node (length c.args.order.now)) [
      | inl inner ↦ inner
      | inr from ↦ absurd (false≢true (sym c.if-is_met_throughout.false ∙ c.is_met_throughout.ensures.inner from))
    ] in
    let count = c.requires.shared.count in
    omega (arith, inner, count)

pub hand_down-requires-clause-right : goal.hand_down-requires-clause-right
hand_down-requires-clause-right g t c =
    let inner : c.args.node < length c.args.order.now = elim (cases_lt c.args.node (length c.args.order.now)) [
      | inl inner ↦ inner
      | inr from ↦ absurd (false≢true (sym c.if-is_met_throughout.false ∙ c.is_met_throughout.ensures.inner from))
    ] in
    let count = c.requires.shared.count in
    omega (arith, inner, count)

pub hand_down-requires-clause-nodes : goal.hand_down-requires-clause-nodes
hand_down-requires-clause-nodes g t c = c.requires.rows.nodes.count

pub take_beneath-requires : goal.take_beneath-requires
take_beneath-requires g t c =
    let order = c.args.order.now in
    let node = c.args.node in
    let lists = c.hand_down.new.lists in
    let P : List (List Stretch) → Type 0 = λ l. AreRowsOf c.args.design.now (record { lists = l; order = order; nodes = c.hand_down.new.nodes }) in
    let rows : AreRowsOf c.args.design.now (record { lists = row_lists order lists; order = order; nodes = c.hand_down.new.nodes }) =
    subst P (sym c.in_ok-hand_down.ensures.same) (c.in_ok-hand_down.ensures.rows c.args.design.now c.requires.rows) in
    let shared : AreShared order lists = c.in_ok-hand_down.ensures.shared in
    let count = rows.nodes.count in
    let before = c.requires.rows.nodes.count in
    let some = c.requires.first in
    let inner : node < length order = elim (cases_lt node (length order)) [
      | inl inner ↦ inner
      | inr from ↦ absurd (false≢true (sym c.if-is_met_throughout.false ∙ c.is_met_throughout.ensures.inner from))
    ] in
    let first : 1 ≤ 2 * node = omega (arith, some) in
    let there : 2 * node < length c.hand_down.new.nodes = omega (arith, inner, count) in
    let alone : list_of_node lists (2 * node / 2) ≡ None = ap (list_of_node lists) (half_of_left node) ∙ c.in_ok-hand_down.ensures.none in
    let fewer : length c.hand_down.new.nodes - 2 * node < length c.args.nodes.now - node = omega (arith, some, inner, count, before) in
    search (rules, rows, shared, first, there, alone, fewer)

pub take_beneath-requires-2 : goal.take_beneath-requires-2
take_beneath-requires-2 g t c =
    let order = c.args.order.now in
    let node = c.args.node in
    let lists = c.take_beneath.new.lists in
    let rows : AreRowsOf c.args.design.now (record { lists = row_lists order lists; order = order; nodes = c.take_beneath.new.nodes }) =
    c.in_ok-take_beneath.ensures.rows in
    let shared : AreShared order lists = c.in_ok-take_beneath.ensures.shared in
    let count = rows.nodes.count in
    let before = c.requires.rows.nodes.count in
    let some = c.requires.first in
    let inner : node < length order = elim (cases_lt node (length order)) [
      | inl inner ↦ inner
      | inr from ↦ absurd (false≢true (sym c.if-is_met_throughout.false ∙ c.is_met_throughout.ensures.inner from))
    ] in
    let first : 1 ≤ 2 * node + 1 = omega arith in
    let there : 2 * node + 1 < length c.take_beneath.new.nodes = omega (arith, inner, count) in
    let above : list_of_node lists node ≡ None = ap (list_of_node lists) (sym (half_of_left node)) ∙ c.in_ok-take_beneath.ensures.alone in
    let alone : list_of_node lists ((2 * node + 1) / 2) ≡ None = ap (list_of_node lists) (half_of_right node) ∙ above in
    let fewer : length c.take_beneath.new.nodes - (2 * node + 1) < length c.args.nodes.now - node = omega (arith, some, inner, count, before) in
    search (rules, rows, shared, first, there, alone, fewer)

pub returns : goal.returns
returns g t c =
    let order = c.args.order.now in
    let node = c.args.node in
    let design = c.args.design.now in
    let rect = c.args.rect.now in
    let lists = c.take_beneath-2.new.lists in
    let nodes = c.take_beneath-2.new.nodes in
    let rows = c.in_ok-take_beneath-2.ensures.rows in
    let count = rows.nodes.count in
    let inner : node < length order = elim (cases_lt node (length order)) [
      | inl inner ↦ inner
      | inr from ↦ absurd (false≢true (sym c.if-is_met_throughout.false ∙ c.is_met_throughout.ensures.inner from))
    ] in
    let P : List (List Stretch) → Type 0 = λ l. AreTakenBeneath design rect order (2 * node) l (row_lists order c.take_beneath.new.lists) in
    let first = subst P c.in_ok-hand_down.ensures.same c.in_ok-take_beneath.ensures.taken in
    let above : list_of_node lists node ≡ None = ap (list_of_node lists) (sym (half_of_right node)) ∙ c.in_ok-take_beneath-2.ensures.alone in
    record {
      shared = c.in_ok-take_beneath-2.ensures.shared;
      rows = rows_joined design order (row_lists order lists) nodes node c.joined.result c.requires.first inner
          (cover_below nodes node c.joined.result none (omega (arith, inner, count)) c.joined.ensures.this c.joined.ensures.other) rows;
      taken = taken_both design rect order node (row_lists order c.args.lists.now) (row_lists order c.take_beneath.new.lists)
          (row_lists order lists) inner first c.in_ok-take_beneath-2.ensures.taken;
      alone = none_above lists (node / 2) node c.requires.first refl above;
      before = λ highest none.
          c.in_ok-take_beneath-2.ensures.before highest (c.in_ok-take_beneath.ensures.before highest (c.in_ok-hand_down.ensures.before highest none));
    }

pub returns-in_err-take_beneath-clause-before : goal.returns-in_err-take_beneath-clause-before
returns-in_err-take_beneath-clause-before g t c highest none =
    c.in_err-take_beneath.ensures.before highest (c.in_ok-hand_down.ensures.before highest none)

pub returns-in_err-take_beneath-2-clause-before : goal.returns-in_err-take_beneath-2-clause-before
returns-in_err-take_beneath-2-clause-before g t c highest none =
    c.in_err-take_beneath-2.ensures.before highest (c.in_ok-take_beneath.ensures.before highest (c.in_ok-hand_down.ensures.before highest none))
