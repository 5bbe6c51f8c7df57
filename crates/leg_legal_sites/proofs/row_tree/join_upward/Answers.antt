-- One more node is joined of the two below it.
use Rattle.std.proofs.Common.{◌≡◌, ◌+◌, ◌-◌, pos, arith}
use Rattle.leg_legal_sites.specs.declared.bounds.Bounds.{Bounds}
use Rattle.leg_legal_sites.specs.Steps.RowTree.{AreJoinedFrom}
use Rattle.leg_legal_sites.proofs.RowTree.{cover_below, joined_none, joined_more, joined_fewer}
use Rattle.leg_legal_sites.proofs.row_tree.join_upward.Goals as goal

abbrev none : Bounds
none = record { least_row = 0; least_site = 0; most_site = 0; low = pos 0; high = pos 0; top = pos 0; left = pos 0; right = pos 0; corner = pos 0; longest = 0 }

pub loop-node-init : goal.loop-node-init
loop-node-init c = joined_none c.args.leaves c.args.nodes.now

pub loop-node-preserved : goal.loop-node-preserved
loop-node-preserved c =
    let node = c.loop-node.node - 1 in
    let nodes = c.loop-node.nodes in
    let count = c.loop-node.invariant.count in
    let room = c.requires in
    let some = c.loop-node-test.true in
    let most = c.loop-node.auto.node in
    let next : c.loop-node.node ≡ node + 1 = omega (arith, some) in
    let so_far : AreJoinedFrom c.args.leaves (node + 1) c.args.nodes.now nodes = rw next at c.loop-node.invariant in
    joined_more c.args.leaves node c.args.nodes.now nodes c.joined.result (omega (arith, some, most)) (omega (arith, some))
    (cover_below nodes node c.joined.result none (omega (arith, some, most, count, room)) c.joined.ensures.this c.joined.ensures.other) so_far

pub returns : goal.returns
returns c = joined_fewer c.args.leaves c.loop-node.node 1 c.args.nodes.now c.loop-node.nodes c.loop-node-test.false c.loop-node.invariant
