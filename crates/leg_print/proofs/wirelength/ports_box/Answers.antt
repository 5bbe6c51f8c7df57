use Rattle.leg_design_records.specs.Records.{PortModel}
use Rattle.leg_print.specs.Steps.Wirelength.{IsOfPort}
use Rattle.leg_print.proofs.PointsOfSome.{one_more, all_taken}
use Rattle.leg_print.proofs.wirelength.ports_box.Goals as goal

pub loop-port-preserved : goal.loop-port-preserved
loop-port-preserved g c =
    rw c.joined-bounds.ensures
    (one_more PortModel IsOfPort c.args.ports.now c.loop-port.port-index c.port-item.result c.loop-port.bounds c.port_box.result c.loop-port-test.true
    c.port-item.is c.loop-port.invariant c.port_box.ensures)

pub returns : goal.returns
returns g c = all_taken PortModel IsOfPort c.args.ports.now c.loop-port.port-index c.loop-port.bounds c.loop-port-test.false c.loop-port.invariant
