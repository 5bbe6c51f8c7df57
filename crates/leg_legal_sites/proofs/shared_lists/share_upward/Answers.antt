-- One more node may have the list of both nodes below it.
use Rattle.std.proofs.Common.{◌≡◌, ◌+◌, ◌-◌, arith}
use Rattle.leg_legal_sites.specs.Steps.SharedLists.{IsShareable, IsSharedFrom}
use Rattle.leg_legal_sites.proofs.ListMoves.{lifted_shared}
use Rattle.leg_legal_sites.proofs.shared_lists.share_upward.Goals as goal

pub loop-node-preserved-then-is_shareable : goal.loop-node-preserved-then-is_shareable
loop-node-preserved-then-is_shareable g c =
    let order = c.args.order.now in
    let node = c.loop-node.node - 1 in
    let lists = c.loop-node.lists in
    let some = c.loop-node-test.true in
    let most = c.loop-node.auto.node in
    let next : c.loop-node.node ≡ node + 1 = omega (arith, some) in
    let so_far : IsSharedFrom order (node + 1) c.args.lists.now lists = rw next at c.loop-node.invariant in
    let is : IsShareable order lists node = c.is_shareable.ensures c.if-is_shareable.true in
    rw (c.share.ensures, is.left) (lifted_shared order node (omega (arith, some)) (omega (arith, some, most)) c.args.lists.now lists so_far is)
