-- A macro has no pin of a number past its pins.
use Rattle.std.proofs.Common.{◌≡◌, ℕ, ◌<◌, ◌≤◌, ◌∙◌, [], length, None, Some, slice_get, refl, ap, arith}
use Rattle.std.proofs.lemmas.Bool.Decides.{nat_tests}
use Rattle.std.proofs.lemmas.Option.{slice_get_past}
use Rattle.leg_lib_records.specs.Records.{MasterModel}
use Rattle.leg_design_records.specs.declared.records.Component.{Component}
use Rattle.leg_design_records.specs.Records.{DesignModel}
use Rattle.leg_design_records.specs.Names.{component_pin_name}
use Rattle.leg_design_records.proofs.ComponentMacro.{component_read, master_read}
use Rattle.leg_design_records.proofs.design.Design.component_pin_name.Goals as goal

no_pin : (design : DesignModel) (c k : ℕ) (component : Component) (master : MasterModel) → slice_get design.components c ≡ Some component
    → slice_get design.library.masters component.master ≡ Some master → slice_get master.pins k ≡ None
    → [] ≡ component_pin_name design c k
no_pin design c k component master there is_master none = rw (there, is_master, none) refl

pub returns-in-None : goal.returns-in-None
returns-in-None g c =
    let design = c.args.self.now in
    let component = c.in-Some.component.now in
    let master = c.in-Some-get.master.now in
    let within : c.args.component < length c.components.result.now = grind (arith, nat_tests, c.in-Some.ensures.lookup.0) in
    let there = component_read design c.args.component component c.components.result.now c.components.ensures.is within c.in-Some.ensures.lookup.1 in
    let masters : c.masters.result.now ≡ design.library.masters = c.masters.ensures.is ∙ ap (λ library. library.masters) c.library.ensures.is in
    let is_master = master_read design c.args.component component c.components.ensures.proper there c.masters.result.now masters master
    c.in-Some-get.ensures.lookup.1 in
    let pins : c.as_slice.result.now ≡ master.pins = c.as_slice.ensures ∙ ap (λ (m : MasterModel). m.pins) c.master.view_is in
    let past : length c.as_slice.result.now ≤ c.args.pin = grind (arith, nat_tests, c.in-None.ensures.lookup) in
    no_pin design c.args.component c.args.pin component master there is_master (rw (← pins) (slice_get_past c.as_slice.result.now c.args.pin past))
