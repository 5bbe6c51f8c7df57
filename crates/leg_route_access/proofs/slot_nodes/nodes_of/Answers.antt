use Rattle.std.proofs.Common.{ℕ, get_or}
use Rattle.std.proofs.lemmas.List.{get_or_default, take_all}
use Rattle.leg_route_access.proofs.TableNumbers.{one_node_more}
use Rattle.leg_route_access.proofs.slot_nodes.nodes_of.Goals as goal

pub node-requires : goal.node-requires
node-requires g c = c.requires c.loop-number.number-index 0 c.loop-number-test.true

pub loop-number-preserved : goal.loop-number-preserved
loop-number-preserved g c =
    let numbers = c.args.numbers.now in
    let i = c.loop-number.number-index in
    let n : ℕ = get_or numbers i 0 in
    one_node_more c.args.grid.now numbers i n c.loop-number.nodes.items c.push.new.self.items c.node.result c.loop-number-test.true
    (get_or_default numbers i n 0 c.loop-number-test.true) c.loop-number.invariant c.in_ok-push.ensures.items c.node.ensures.is

pub returns : goal.returns
returns g c = rw (take_all c.loop-number.number-index c.args.numbers.now c.loop-number-test.false) at c.loop-number.invariant
