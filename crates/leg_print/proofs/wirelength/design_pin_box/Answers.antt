use Rattle.std.proofs.Common.{◌≡◌, ◌∙◌, ap}
use Rattle.std.proofs.lemmas.List.Elements.{All-weaker}
use Rattle.leg_lemmas.proofs.Places.{all_at}
use Rattle.leg_design_records.specs.Records.{PinModel}
use Rattle.leg_design_records.specs.WellFormedParts.{IsPort, IsPin}
use Rattle.leg_flat.specs.Steps.AddedMetal.{IsPortWithin}
use Rattle.leg_flat.proofs.DrawnMetal.{port_within}
use Rattle.leg_print.proofs.DrawnTerminals.{looked_up}
use Rattle.leg_print.proofs.TerminalCentres.{design_pin_least}
use Rattle.leg_print.proofs.wirelength.design_pin_box.Goals as goal

pub returns : goal.returns
returns g c =
    let pin = c.in_ok-pin.pin.now in
    let there = looked_up c.pins.result.now c.args.design.now.pins c.args.pin pin c.pins.ensures.is c.in_ok-pin.ensures.lookup.0 c.in_ok-pin.ensures.lookup.1 in
    let ports : c.as_slice.result.now ≡ pin.ports = c.as_slice.ensures ∙ ap (λ (p : PinModel). p.ports) c.pin.view_is in
    design_pin_least c.args.design.now c.args.pin pin c.ports_box.result there (rw ports at c.ports_box.ensures)

pub ports_box-requires : goal.ports_box-requires
ports_box-requires g c =
    let design = c.args.design.now in
    let pin = c.in_ok-pin.pin.now in
    let there = looked_up c.pins.result.now design.pins c.args.pin pin c.pins.ensures.is c.in_ok-pin.ensures.lookup.0 c.in_ok-pin.ensures.lookup.1 in
    let known = all_at (IsPin design.library) design.pins c.args.pin pin c.pins.ensures.proper.pins.each there in
    let ports : c.as_slice.result.now ≡ pin.ports = c.as_slice.ensures ∙ ap (λ (p : PinModel). p.ports) c.pin.view_is in
    rw ports (All-weaker (IsPort design.library) IsPortWithin (port_within design.library) pin.ports known.ports)
