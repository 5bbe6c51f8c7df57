use Rattle.std.proofs.Common.{◌≡◌, sym, zero-add, rules, arith}
use Rattle.leg_lemmas.proofs.Places.{read_at}
use Rattle.leg_flat.proofs.MoreMetal.{adds_at, adds_all}
use Rattle.leg_flat.proofs.MetalWalks.{net_metal, nets_walk}
use Rattle.leg_flat.proofs.MetalSizes.{wires_within, terminals_few, net_wires_few, counts_length, count_is}
use Rattle.leg_flat.proofs.metal_wires.add_nets.Goals as goal

pub terminal_count-first-requires : goal.terminal_count-first-requires
terminal_count-first-requires g c =
    let less = rw c.nets-net-items.ensures.is at c.loop-n-test.true in
    omega (arith, less, counts_length c.args.design.now c.args.nets.now c.requires.nets)

pub add_wires-requires-clause-within : goal.add_wires-requires-clause-within
add_wires-requires-clause-within g c =
    let there = read_at _ c.args.design.now.nets c.loop-n.n c.net-item.result c.nets-net-items.ensures.is c.loop-n-test.true c.net-item.is in
    wires_within c.args.design.now _ c.args.design.now.nets c.loop-n.n c.net-item.result c.as_slice.result.now c.requires.sound
    c.nets-net-items.ensures.proper.nets.nets.each there (search rules)

pub add_wires-requires-clause-few : goal.add_wires-requires-clause-few
add_wires-requires-clause-few g c =
    let less = rw c.nets-net-items.ensures.is at c.loop-n-test.true in
    let there = read_at _ c.args.design.now.nets c.loop-n.n c.net-item.result c.nets-net-items.ensures.is c.loop-n-test.true c.net-item.is in
    let wires : c.as_slice.result.now ≡ c.net-item.result.wires = search rules in
    let has = c.nets-net-items.ensures.proper.nets in
    let count =
    count_is c.args.design.now c.args.nets.now c.requires.nets c.loop-n.n c.terminal_count-first.result (omega (arith, less)) c.terminal_count-first.ensures in
    rw (wires, count) (omega (arith, terminals_few c.args.design.now has c.loop-n.n, net_wires_few c.args.design.now has c.loop-n.n c.net-item.result there))

pub loop-n-preserved : goal.loop-n-preserved
loop-n-preserved g c =
    let less = rw c.nets-net-items.ensures.is at c.loop-n-test.true in
    let there = read_at _ c.args.design.now.nets c.loop-n.n c.net-item.result c.nets-net-items.ensures.is c.loop-n-test.true c.net-item.is in
    let wires : c.as_slice.result.now ≡ c.net-item.result.wires = search rules in
    let count =
    count_is c.args.design.now c.args.nets.now c.requires.nets c.loop-n.n c.terminal_count-first.result (omega (arith, less)) c.terminal_count-first.ensures in
    adds_at (net_metal c.args.design.now) 0 c.args.design.now.nets c.args.shapes.now.items c.loop-n.n c.loop-n.n c.net-item.result c.loop-n.shapes.items _
    (sym (zero-add _)) there c.loop-n.invariant (rw (wires, count) at c.in_ok-add_wires.ensures)

pub returns : goal.returns
returns g c =
    let past = rw c.nets-net-items.ensures.is at c.loop-n-test.false in
    adds_all (net_metal c.args.design.now) 0 c.args.design.now.nets c.args.shapes.now.items c.loop-n.n c.loop-n.shapes.items _ past
    (nets_walk _ _ _) c.loop-n.invariant
