use Rattle.std.proofs.Common.{◌≡◌, ◌+◌, length, refl, sym, zero-add, rules}
use Rattle.leg_rules.specs.Metal.Nets.{number_of_special, terminals_of, regular_entry, entry_wires}
use Rattle.leg_flat.proofs.MetalWalks.{net_metal, nets_walk, one_special, specials_walk}
use Rattle.leg_flat.proofs.Counts.{counts_more, counts_all}
use Rattle.leg_flat.proofs.metal_count.count_nets.Goals as goal

pub loop-net-preserved : goal.loop-net-preserved
loop-net-preserved g c =
    let design = c.args.design.now in
    let wires : c.as_slice.result.now ≡ c.net-item.result.wires = search rules in
    let counts = rw wires at c.count_wires-count.ensures in
    let n = number_of_special design c.loop-net.net-index c.net-item.result in
    record {
      regular =
          counts_more (net_metal design) 0 c.args.nets.now c.counted-count.result c.loop-net.net-index c.loop-net.net-index c.net-item.result c.loop-net.count
          _ _ (sym (zero-add _)) c.loop-net-test.true c.net-item.is c.loop-net.invariant.regular
          (counts c.loop-net.net-index (length (terminals_of design c.loop-net.net-index))) refl;
      special =
          counts_more (one_special design) 0 c.args.nets.now c.counted-count.result c.loop-net.net-index c.loop-net.net-index c.net-item.result
          c.loop-net.count _ _ (sym (zero-add _)) c.loop-net-test.true c.net-item.is c.loop-net.invariant.special
          (counts n (length (terminals_of design n) + length (entry_wires (regular_entry design n)))) refl;
    }

pub returns-clause-regular : goal.returns-clause-regular
returns-clause-regular g c =
    counts_all (net_metal c.args.design.now) 0 c.args.nets.now c.counted-count.result c.loop-net.net-index c.args.before c.loop-net.count _
    c.loop-net-test.false c.counted-count.ensures (nets_walk _ _ _) c.loop-net.invariant.regular

pub returns-clause-special : goal.returns-clause-special
returns-clause-special g c =
    counts_all (one_special c.args.design.now) 0 c.args.nets.now c.counted-count.result c.loop-net.net-index c.args.before c.loop-net.count _
    c.loop-net-test.false c.counted-count.ensures (specials_walk _ _ _) c.loop-net.invariant.special
