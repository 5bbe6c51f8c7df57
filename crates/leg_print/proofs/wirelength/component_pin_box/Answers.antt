use Rattle.std.proofs.Common.{◌≡◌, ◌∙◌, ap}
use Rattle.std.proofs.lemmas.Option.{slice_get_past}
use Rattle.leg_lib_records.specs.Measure.{ExtentModel}
use Rattle.leg_lib_records.specs.Records.{MasterModel, MasterPinModel}
use Rattle.leg_print.proofs.BoxRegisters.{register, number_kept}
use Rattle.leg_print.proofs.DrawnTerminals.{looked_up, component_position, pin_within}
use Rattle.leg_print.proofs.TerminalCentres.{no_pin, component_pin_least, sized_least}
use Rattle.leg_print.proofs.wirelength.component_pin_box.Goals as goal

pub returns-in_err-pin : goal.returns-in_err-pin
returns-in_err-pin g c =
    let design = c.args.design.now in
    let component = c.in_ok-component.component.now in
    let master = c.in_ok-master.master.now in
    let found =
    looked_up c.components.result.now design.components c.args.component component c.components.ensures.is c.in_ok-component.ensures.lookup.0
    c.in_ok-component.ensures.lookup.1 in
    let listed : c.as_slice.result.now ≡ master.pins = c.as_slice.ensures ∙ ap (λ (m : MasterModel). m.pins) c.master.view_is in
    let made =
    looked_up c.masters.result.now c.library.result.now.masters component.master master c.masters.ensures.is c.in_ok-master.ensures.lookup.0
    c.in_ok-master.ensures.lookup.1 in
    let none = slice_get_past c.as_slice.result.now c.args.pin c.in_err-pin.ensures.lookup.3 in
    rw c.from_residual-in_err-pin.ensures
    (no_pin design c.args.component c.args.pin component found master (rw c.library.ensures.is at made) (rw listed at none))

pub drawn_box-requires-clause-at : goal.drawn_box-requires-clause-at
drawn_box-requires-clause-at g c =
    let component = c.in_ok-component.component.now in
    let there =
    looked_up c.components.result.now c.args.design.now.components c.args.component component c.components.ensures.is c.in_ok-component.ensures.lookup.0
    c.in_ok-component.ensures.lookup.1 in
    component_position c.args.design.now c.args.component component c.in_ok-place.place c.components.ensures.proper there c.in_ok-place.was

pub drawn_box-requires-clause-within : goal.drawn_box-requires-clause-within
drawn_box-requires-clause-within g c =
    let component = c.in_ok-component.component.now in
    let master = c.in_ok-master.master.now in
    let pin = c.in_ok-pin.pin.now in
    let listed : c.as_slice.result.now ≡ master.pins = c.as_slice.ensures ∙ ap (λ (m : MasterModel). m.pins) c.master.view_is in
    let drawn : c.as_slice-2.result.now ≡ pin.shapes = c.as_slice-2.ensures ∙ ap (λ (p : MasterPinModel). p.shapes) c.pin.view_is in
    let made =
    looked_up c.masters.result.now c.library.result.now.masters component.master master c.masters.ensures.is c.in_ok-master.ensures.lookup.0
    c.in_ok-master.ensures.lookup.1 in
    let there = looked_up c.as_slice.result.now master.pins c.args.pin pin listed c.in_ok-pin.ensures.lookup.0 c.in_ok-pin.ensures.lookup.1 in
    rw drawn (pin_within c.library.result.now component.master c.args.pin master pin c.masters.ensures.proper made there)

pub returns : goal.returns
returns g c =
    let design = c.args.design.now in
    let component = c.in_ok-component.component.now in
    let master = c.in_ok-master.master.now in
    let pin = c.in_ok-pin.pin.now in
    let found =
    looked_up c.components.result.now design.components c.args.component component c.components.ensures.is c.in_ok-component.ensures.lookup.0
    c.in_ok-component.ensures.lookup.1 in
    let listed : c.as_slice.result.now ≡ master.pins = c.as_slice.ensures ∙ ap (λ (m : MasterModel). m.pins) c.master.view_is in
    let drawn : c.as_slice-2.result.now ≡ pin.shapes = c.as_slice-2.ensures ∙ ap (λ (p : MasterPinModel). p.shapes) c.pin.view_is in
    let made =
    looked_up c.masters.result.now c.library.result.now.masters component.master master c.masters.ensures.is c.in_ok-master.ensures.lookup.0
    c.in_ok-master.ensures.lookup.1 in
    let there = looked_up c.as_slice.result.now master.pins c.args.pin pin listed c.in_ok-pin.ensures.lookup.0 c.in_ok-pin.ensures.lookup.1 in
    let size = c.master.inside.size in
    let same : size ≡ master.size = ap (λ (m : MasterModel). m.size) c.master.view_is in
    let width =
    number_kept c.width-width.result size.width c.width-width.ensures.is c.width-width.ensures.proper.width ∙ ap (λ (s : ExtentModel). s.width) same in
    let height =
    number_kept c.height-height.result size.height c.height-height.ensures.is c.height-height.ensures.proper.height ∙ ap (λ (s : ExtentModel). s.height) same in
    component_pin_least design c.args.component c.args.pin component found master
    (rw c.library.ensures.is at made) c.in_ok-place.place pin c.drawn_box.result c.in_ok-place.was there
    (sized_least c.in_ok-place.place (register c.width-width.result)
    (register c.height-height.result) master.size c.as_slice-2.result.now pin.shapes c.drawn_box.result width height drawn c.drawn_box.ensures)
