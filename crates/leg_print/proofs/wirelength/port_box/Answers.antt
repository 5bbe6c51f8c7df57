use Rattle.std.proofs.Common.{◌≡◌, Some, ◌∙◌, sym, ap}
use Rattle.leg_design_records.specs.Records.{PortModel}
use Rattle.leg_print.proofs.DrawnPoints.{port_least}
use Rattle.leg_print.proofs.wirelength.port_box.Goals as goal

pub returns : goal.returns
returns g c =
    let place : c.args.port.now.place ≡ Some c.in_ok-place.place = sym (ap (λ (p : PortModel). p.place) c.port.view_is) ∙ c.in_ok-place.was in
    let shapes : c.as_slice.result.now ≡ c.args.port.now.shapes = c.as_slice.ensures ∙ ap (λ (p : PortModel). p.shapes) c.port.view_is in
    port_least c.args.port.now c.in_ok-place.place c.drawn_box.result place (rw shapes at c.drawn_box.ensures)
