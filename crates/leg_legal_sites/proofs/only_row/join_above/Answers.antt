-- One more node is joined of the two below it.
use Rattle.std.proofs.Common.{◌≤◌, arith}
use Rattle.leg_legal_sites.proofs.OnlyRow.{joined_first, joined_higher}
use Rattle.leg_legal_sites.proofs.only_row.join_above.Goals as goal

pub loop-above-init : goal.loop-above-init
loop-above-init c = joined_first c.args.order.now c.args.nodes.now c.args.node c.requires.there c.requires.count

pub loop-above-preserved : goal.loop-above-preserved
loop-above-preserved c =
    let some : 1 ≤ c.loop-above.above = let test = c.loop-above-test.true in omega (arith, test) in
    joined_higher c.args.order.now c.args.nodes.now c.loop-above.nodes c.loop-above.above c.joined-joined.result some c.joined-joined.ensures.this
    c.joined-joined.ensures.other c.loop-above.invariant
