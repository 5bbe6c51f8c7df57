-- The leaves are made, and the other nodes of those.
use Rattle.std.proofs.Common.{◌≡◌, length, drop, arith}
use Rattle.std.proofs.lemmas.List.{take_at}
use Rattle.leg_legal_sites.specs.Steps.FreeLists.{DoFit}
use Rattle.leg_legal_sites.specs.Steps.FreeListSharing.{row_lists}
use Rattle.leg_legal_sites.specs.Steps.RowTree.{AreJoinedFrom}
use Rattle.leg_legal_sites.proofs.RowTree.{nodes_from_joined}
use Rattle.leg_legal_sites.proofs.TakenRows.{row_covered}
use Rattle.leg_legal_sites.proofs.row_tree.nodes_of.Goals as goal

pub returns : goal.returns
returns g c =
    let old = c.in_ok-nodes.nodes.items in
    let new = c.join_upward.new.nodes in
    let long = c.as_mut_slice.ensures.len in
    let kept = c.join_upward.auto.nodes in
    let count : length new ≡ c.in_ok-nodes.nodes.len = omega (arith, long, kept) in
    let whole = take_at new (drop (length new) old) c.in_ok-nodes.nodes.len count in
    let joined : AreJoinedFrom (length c.args.order.now) 1 old new = rw c.as_mut_slice.ensures.value at c.join_upward.ensures in
    rw whole (nodes_from_joined c.args.order.now (DoFit c.args.design.now (row_lists c.args.order.now c.args.lists.now))
    (row_covered c.args.design.now (row_lists c.args.order.now c.args.lists.now)) old new c.in_ok-nodes.ensures joined)
