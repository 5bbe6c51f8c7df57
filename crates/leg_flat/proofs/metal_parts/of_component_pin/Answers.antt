use Rattle.leg_flat.proofs.MetalOwners.{component_pin_owner}
use Rattle.leg_flat.proofs.metal_parts.of_component_pin.Goals as goal

pub returns : goal.returns
returns g c = λ design master said are is at supply.
    c.of_terminal.ensures design are (component_pin_owner design c.args.component c.args.pin master said c.owner_by_use-lone.result is at
    (c.owner_by_use-lone.ensures said supply))
