-- The rows lose what the rectangle meets.
use Rattle.std.proofs.Common.{◌≡◌, length, drop, sym, ap, arith}
use Rattle.std.proofs.lemmas.Bool.{eqb-true}
use Rattle.std.proofs.lemmas.List.{take_at}
use Rattle.leg_legal_sites.specs.Steps.FreeLists.{RowLists}
use Rattle.leg_legal_sites.specs.Steps.FreeListSharing.{row_lists}
use Rattle.leg_legal_sites.specs.Steps.SharedLists.{AreShared}
use Rattle.leg_legal_sites.proofs.TakenRows.{box_taken, box_of_none}
use Rattle.leg_legal_sites.proofs.free_rows.FreeRows.take_box.Goals as goal

pub returns-then-is_empty : goal.returns-then-is_empty
returns-then-is_empty g c =
    let same : c.self.inside.order.items ≡ c.args.self.now.order = ap (λ (f : RowLists). f.order) c.self.view_is in
    let none : length c.self.inside.order.items ≡ 0 =
    rw c.as_slice-order.ensures.value at (eqb-true (length c.as_slice-order.result.now) 0 (sym c.if-is_empty.ensures)) in
    box_of_none c.args.design.now c.args.rect.now c.args.self.now (rw (← same) none)

pub invariant_of-self : goal.invariant_of-self
invariant_of-self g c =
    let lists = c.take_from_rows.new.lists in
    let long = c.as_mut_slice.ensures.len in
    let kept = c.take_from_rows.auto.lists in
    let count : length lists ≡ c.self.inside.lists.len = omega (arith, long, kept) in
    let whole = take_at lists (drop (length lists) c.self.inside.lists.items) c.self.inside.lists.len count in
    let shared : AreShared c.self.inside.order.items lists = rw c.as_slice-order.ensures.value at c.take_from_rows.ensures.shared in
    rw whole (record { shared = shared; none = c.take_from_rows.ensures.none })

pub returns : goal.returns
returns g c =
    let design = c.args.design.now in
    let rect = c.args.rect.now in
    let order = c.self.inside.order.items in
    let lists = c.take_from_rows.new.lists in
    let nodes = c.take_from_rows.new.nodes in
    let free : RowLists = record { lists = row_lists order c.self.inside.lists.items; order = order; nodes = c.self.inside.nodes.items } in
    let long_lists = c.as_mut_slice.ensures.len in
    let kept_lists = c.take_from_rows.auto.lists in
    let count_lists : length lists ≡ c.self.inside.lists.len = omega (arith, long_lists, kept_lists) in
    let long_nodes = c.as_mut_slice-2.ensures.len in
    let kept_nodes = c.take_from_rows.auto.nodes in
    let count_nodes : length nodes ≡ c.self.inside.nodes.len = omega (arith, long_nodes, kept_nodes) in
    let all_lists = take_at lists (drop (length lists) c.self.inside.lists.items) c.self.inside.lists.len count_lists in
    let all_nodes = take_at nodes (drop (length nodes) c.self.inside.nodes.items) c.self.inside.nodes.len count_nodes in
    rw (all_lists, all_nodes) (box_taken c.take_from_rows.result design rect c.args.self.now free
    (record { lists = row_lists order lists; order = order; nodes = nodes }) c.self.view_is
    (rw c.as_slice-order.ensures.value at c.take_from_rows.ensures.rows)
    (rw (c.as_slice-order.ensures.value, c.as_mut_slice.ensures.value) at c.take_from_rows.ensures.taken))
