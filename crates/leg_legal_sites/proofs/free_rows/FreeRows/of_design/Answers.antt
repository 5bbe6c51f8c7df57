-- Each row begins with its sites in the die, and rows with the same sites share their list.
use Rattle.std.proofs.Common.{◌≡◌, List, [], length, drop, sym, subst, arith}
use Rattle.std.proofs.lemmas.List.{take_at}
use Rattle.leg_legal_sites.specs.declared.stretch.Stretch.{Stretch}
use Rattle.leg_legal_sites.specs.Steps.RowOrder.{IsRowOrder}
use Rattle.leg_legal_sites.specs.Steps.FreeListSharing.{row_lists}
use Rattle.leg_legal_sites.specs.Steps.FreeLists.{AreFreeLists}
use Rattle.leg_legal_sites.specs.Steps.FreeRows.{AreInside}
use Rattle.leg_legal_sites.specs.Steps.SharedLists.{AreShared, AreLeafLists}
use Rattle.leg_legal_sites.proofs.RowsInside.{inside_die}
use Rattle.leg_legal_sites.proofs.LeafLists.{leaves_inside, leaves_none, leaves_shared}
use Rattle.leg_legal_sites.proofs.free_rows.FreeRows.of_design.Goals as goal

pub share_upward-requires-clause-shared : goal.share_upward-requires-clause-shared
share_upward-requires-clause-shared g c =
    let order = c.in_ok-order.order.items in
    let lists = c.in_ok-lists.lists.items in
    let is_order : IsRowOrder c.args.design.now.rows order = rw c.rows.ensures.is at c.in_ok-order.ensures.order in
    let are : AreLeafLists c.args.design.now order (length order) lists = rw c.as_slice.ensures.value at c.in_ok-lists.ensures in
    rw (c.as_slice-4.ensures.value, c.as_mut_slice.ensures.value) (leaves_shared c.args.design.now order is_order lists are)

pub share_upward-requires-clause-alone : goal.share_upward-requires-clause-alone
share_upward-requires-clause-alone g c =
    let order = c.in_ok-order.order.items in
    let lists = c.in_ok-lists.lists.items in
    let is_order : IsRowOrder c.args.design.now.rows order = rw c.rows.ensures.is at c.in_ok-order.ensures.order in
    let are : AreLeafLists c.args.design.now order (length order) lists = rw c.as_slice.ensures.value at c.in_ok-lists.ensures in
    rw (c.as_slice-4.ensures.value, c.as_mut_slice.ensures.value) (leaves_none c.args.design.now order is_order lists are)

pub invariant_of-result : goal.invariant_of-result
invariant_of-result g c =
    let old = c.in_ok-lists.lists.items in
    let new = c.share_upward.new.lists in
    let long = c.as_mut_slice.ensures.len in
    let kept = c.share_upward.auto.lists in
    let count : length new ≡ c.in_ok-lists.lists.len = omega (arith, long, kept) in
    let whole = take_at new (drop (length new) old) c.in_ok-lists.lists.len count in
    let shared : AreShared c.in_ok-order.order.items new = rw c.as_slice-4.ensures.value at c.share_upward.ensures.shared in
    rw whole (record { shared = shared; none = λ node below. absurd (omega (arith, below)) })

pub returns : goal.returns
returns g c =
    let design = c.args.design.now in
    let order = c.in_ok-order.order.items in
    let old = c.in_ok-lists.lists.items in
    let new = c.share_upward.new.lists in
    let is_order : IsRowOrder design.rows order = rw c.rows.ensures.is at c.in_ok-order.ensures.order in
    let are : AreLeafLists design order (length order) old = rw c.as_slice.ensures.value at c.in_ok-lists.ensures in
    let many : length order ≡ length design.rows = rw c.rows.ensures.is at c.in_ok-order.ensures.count in
    let inside : AreInside design (length design.rows) (row_lists order old) = leaves_inside design order is_order old are many in
    let long = c.as_mut_slice.ensures.len in
    let kept = c.share_upward.auto.lists in
    let count : length new ≡ c.in_ok-lists.lists.len = omega (arith, long, kept) in
    let whole = take_at new (drop (length new) old) c.in_ok-lists.lists.len count in
    let same : row_lists order new ≡ row_lists order old = rw (c.as_slice-4.ensures.value, c.as_mut_slice.ensures.value) at c.share_upward.ensures.same in
    let known : AreFreeLists design [] (record { lists = row_lists order old; order = order; nodes = c.in_ok-nodes.nodes.items }) = record {
      rows = record {
        lists = inside.count;
        inside = inside_die design (length design.rows) (row_lists order old) inside;
        order = is_order;
        nodes = rw (c.as_slice-2.ensures.value, c.as_slice-3.ensures.value) at c.in_ok-nodes.ensures;
      };
      each = inside.each;
    } in
    let P : List (List Stretch) → Type 0 = λ l. AreFreeLists design [] (record { lists = l; order = order; nodes = c.in_ok-nodes.nodes.items }) in
    rw whole (subst P (sym same) known)
