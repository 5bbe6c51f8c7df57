use Rattle.std.proofs.Common.{◌≡◌, ◌+◌, length, ap, arith}
use Rattle.leg_flat.proofs.FlatWithin.{few_nets, all_few_pieces, all_are_pieces}
use Rattle.leg_flat.proofs.AllNets.{nets_started, nets_more, nets_done}
use Rattle.leg_flat.proofs.nets.nets_of.Goals as goal

pub loop-n-init : goal.loop-n-init
loop-n-init g c = record {
  below =
      nets_started c.args.design.now c.new-2.result.items c.new-3.result.items c.new-4.result c.in_ok-special.special.items c.new-2.ensures.items
      c.new-3.ensures.items c.new-4.ensures;
  special = rw c.in_ok-index.ensures at c.in_ok-special.ensures;
}

pub add_net-requires-clause-below : goal.add_net-requires-clause-below
add_net-requires-clause-below g c = λ t. rw c.in_ok-index.ensures (c.loop-n.invariant.below.place t)

pub loop-n-preserved : goal.loop-n-preserved
loop-n-preserved g c =
    let pieces = rw c.in_ok-index.ensures at c.in_ok-add_net.ensures.pieces in
    let counts = rw c.in_ok-index.ensures at c.in_ok-add_net.ensures.counts in
    let places = rw c.in_ok-index.ensures at c.in_ok-add_net.ensures.places in
    record {
      below = nets_more c.args.design.now c.loop-n.n c.loop-n.nets c.add_net.new.nets c.loop-n.invariant.below pieces counts places;
      special = rw c.in_ok-add_net.ensures.special c.loop-n.invariant.special;
    }

pub returns-clause-is : goal.returns-clause-is
returns-clause-is g c =
    let all : c.loop-n.n ≡ length c.args.design.now.nets + length c.args.design.now.special =
    omega (arith, ap length c.nets.ensures.is, ap length c.special.ensures.is, c.loop-n-test.false, c.loop-n.auto.n-end) in
    nets_done c.args.design.now c.nets.ensures.proper.nets c.loop-n.n _ all c.loop-n.invariant.below c.loop-n.invariant.special

pub returns-clause-nets : goal.returns-clause-nets
returns-clause-nets g c = few_nets c.args.design.now c.nets.ensures.proper.nets _ (returns-clause-is g c).pieces

pub returns-clause-pieces : goal.returns-clause-pieces
returns-clause-pieces g c = all_few_pieces c.args.design.now c.nets.ensures.proper.nets _ (returns-clause-is g c).pieces

pub returns-clause-of_nets : goal.returns-clause-of_nets
returns-clause-of_nets g c = λ shapes. all_are_pieces c.args.design.now c.nets.ensures.proper.nets shapes _ (returns-clause-is g c).pieces
