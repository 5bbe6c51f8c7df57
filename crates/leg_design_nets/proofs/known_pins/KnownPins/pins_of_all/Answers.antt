use Rattle.std.proofs.Common.{ap, ◌∙◌}
use Rattle.leg_design_nets.specs.Steps.Pins.{pins_of_these}
use Rattle.leg_design_nets.proofs.PinsOfAll.{pins_are_all}
use Rattle.leg_design_nets.proofs.known_pins.KnownPins.pins_of_all.Goals as goal

pub returns : goal.returns
returns g c =
    c.in_ok-terminals.ensures
    ∙ (ap (pins_of_these c.args.self.now c.args.name.now) c.deref.ensures.value
    ∙ pins_are_all c.args.self.now c.args.name.now c.put_in_order.new.numbers.items c.put_in_order.ensures.rising
    (λ n has. c.put_in_order.ensures.all n (c.in_ok-numbers.ensures n has)))
