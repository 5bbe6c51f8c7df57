use Rattle.std.proofs.Common.{◌≡◌, pos, to_z, w64, length, ap, arith}
use Rattle.std.proofs.lemmas.Int.{ints}
use Rattle.leg_lemmas.proofs.Places.{read_at}
use Rattle.leg_print.proofs.NetCentres.{one_more_length, all_lengths}
use Rattle.leg_print.proofs.OneWirelength.{one_wirelength}
use Rattle.leg_print.proofs.wirelength.hpwl.Goals as goal

pub loop-net-preserved : goal.loop-net-preserved
loop-net-preserved g c =
    let there = read_at _ c.args.design.now.nets c.loop-net.net-index c.net-item.result c.nets-net-items.ensures.is c.loop-net-test.true c.net-item.is in
    record {
      lengths =
          one_more_length c.args.design.now c.loop-net.net-index c.loop-net.total c.net_length-total.result c.loop-net.invariant.lengths
          (c.net_length-total.ensures.is c.loop-net.net-index there);
      small = omega arith;
    }

pub returns-clause-only : goal.returns-clause-only
returns-clause-only g c total is =
    let few = c.nets-net-items.ensures.proper.nets.few in
    let items = ap length c.nets-net-items.ensures.is in
    let all : c.loop-net.net-index ≡ length c.args.design.now.nets = omega arith in
    let fits : to_z w64 c.loop-net.total ≡ pos c.loop-net.total = omega (arith, ints) in
    rw fits
    (one_wirelength c.args.design.now total (pos c.loop-net.total) is
    (all_lengths c.args.design.now c.loop-net.net-index c.loop-net.total all c.loop-net.invariant.lengths))
