use Rattle.std.proofs.Common.{sym, zero-add}
use Rattle.leg_flat.proofs.MetalWalks.{port_drawn, ports_drawn_walk}
use Rattle.leg_flat.proofs.Counts.{counts_more, counts_all}
use Rattle.leg_flat.proofs.metal_count.count_ports.Goals as goal

pub loop-port-preserved : goal.loop-port-preserved
loop-port-preserved g c =
    counts_more port_drawn 0 c.args.ports.now c.counted-count.result c.loop-port.port-index c.loop-port.port-index c.port-item.result c.loop-port.count _ _
    (sym (zero-add _)) c.loop-port-test.true c.port-item.is c.loop-port.invariant c.counted-count-in-loop-port.ensures c.port_shapes.ensures

pub returns : goal.returns
returns g c =
    counts_all port_drawn 0 c.args.ports.now c.counted-count.result c.loop-port.port-index c.args.before c.loop-port.count _ c.loop-port-test.false
    c.counted-count.ensures (ports_drawn_walk _ _) c.loop-port.invariant
