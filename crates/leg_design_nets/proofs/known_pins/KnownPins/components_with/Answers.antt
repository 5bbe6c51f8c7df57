use Rattle.leg_design_nets.specs.Steps.Pins.{place_in_tables, numbers_under}
use Rattle.leg_design_nets.proofs.PinLookups.{is_among}
use Rattle.leg_design_nets.proofs.known_pins.KnownPins.components_with.Goals as goal

pub returns : goal.returns
returns g c = λ n has.
    rw (c.in_ok-numbers.ensures, c.deref.ensures.value, c.numbers_under.ensures)
    (is_among c.self.inside.scope.now c.self.inside.components.items (place_in_tables c.self.inside.places.items)
    (numbers_under c.self.inside.masters) c.self.invariant n c.args.name.now (rw (← c.self.view_is) at has))
