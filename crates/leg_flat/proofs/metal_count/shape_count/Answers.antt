-- The parts are counted one after the other.
use Rattle.std.proofs.Common.{refl}
use Rattle.leg_flat.proofs.Counts.{metal_counted}
use Rattle.leg_flat.proofs.metal_count.shape_count.Goals as goal

pub returns : goal.returns
returns g c =
    let components = c.count_components-count.ensures in
    let pins = c.count_design_pins-count.ensures in
    let blockages = c.count_blockages-count.ensures in
    let nets = rw c.nets.ensures.is at c.count_nets-count.ensures.regular in
    let special = rw c.special.ensures.is at c.count_nets.ensures.special in
    metal_counted c.args.design.now c.count_nets.result (_, components, (_, pins, (_, blockages, (_, nets, (_, special, refl)))))
