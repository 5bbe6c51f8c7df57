-- The parts are added one after the other.
use Rattle.std.proofs.Common.{refl}
use Rattle.leg_flat.proofs.MetalWhole.{metal_from_parts}
use Rattle.leg_flat.proofs.flat.shapes_of.Goals as goal

pub returns : goal.returns
returns g c =
    let components = rw c.in_ok-shapes.ensures.items at c.in_ok-add_components.ensures in
    let pins = c.in_ok-add_design_pins.ensures in
    let blockages = c.in_ok-add_blockages.ensures in
    let nets = c.in_ok-add_nets.ensures in
    let special = c.in_ok-add_specials.ensures in
    metal_from_parts c.args.design.now _ (_, components, (_, pins, (_, blockages, (_, nets, (_, special, refl)))))
