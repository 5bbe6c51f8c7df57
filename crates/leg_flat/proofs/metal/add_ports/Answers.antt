use Rattle.std.proofs.Common.{sym, zero-add}
use Rattle.leg_flat.proofs.MoreMetal.{adds_more, adds_all}
use Rattle.leg_flat.proofs.MetalWalks.{port_metal, ports_walk}
use Rattle.leg_flat.proofs.metal.add_ports.Goals as goal

pub loop-port-preserved : goal.loop-port-preserved
loop-port-preserved g c =
    adds_more (port_metal c.args.belongs.now) 0 c.args.ports.now c.args.shapes.now.items c.loop-port.port-index _ c.port-item.result c.loop-port.shapes.items
    _ (sym (zero-add _)) c.loop-port-test.true c.port-item.is c.loop-port.invariant c.in_ok-add_port.ensures

pub returns : goal.returns
returns g c =
    adds_all (port_metal c.args.belongs.now) 0 c.args.ports.now c.args.shapes.now.items c.loop-port.port-index c.loop-port.shapes.items _
    c.loop-port-test.false (ports_walk _ _ _) c.loop-port.invariant
