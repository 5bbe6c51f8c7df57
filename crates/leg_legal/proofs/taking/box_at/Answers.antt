-- The box is that of the component's macro.
use Rattle.std.proofs.Common.{◌≡◌, ◌<◌, length, slice_get, Some, sym, ap, ◌∙◌}
use Rattle.std.proofs.lemmas.Option.{same_Some, slice_get_within}
use Rattle.leg_lib_records.specs.Records.{MasterModel}
use Rattle.leg_design_records.specs.declared.records.Component.{Component}
use Rattle.leg_rules.specs.Placement.Box.{placed_box}
use Rattle.leg_design_records.proofs.ComponentMacro.{component_read, master_read}
use Rattle.leg_legal.proofs.taking.box_at.Goals as goal

pub returns : goal.returns
returns g c = λ component master there is_master.
    let design = c.args.design.now in
    let read = c.index-components-number.result in
    let found = c.index-masters-component.result in
    let within : c.args.number < length c.components.result.now =
    rw c.components.ensures.is (slice_get_within design.components c.args.number component there) in
    let read_there : slice_get design.components c.args.number ≡ Some read =
    component_read design c.args.number read c.components.result.now c.components.ensures.is within c.index-components-number.is in
    let one : component ≡ read = same_Some component read (sym there ∙ read_there) in
    let masters : c.masters.result.now ≡ design.library.masters = c.masters.ensures.is ∙ ap (λ library. library.masters) c.library.ensures.is in
    let found_there : slice_get design.library.masters read.master ≡ Some found =
    master_read design c.args.number read c.components.ensures.proper read_there c.masters.result.now masters found c.index-masters-component.is in
    let same : master ≡ found =
    same_Some master found (sym is_master ∙ ap (λ (k : Component). slice_get design.library.masters k.master) one ∙ found_there) in
    let size : c.master.inside.size ≡ master.size = ap (λ (m : MasterModel). m.size) (c.master.view_is ∙ sym same) in
    c.placed_size.ensures.is ∙ ap (λ size. placed_box size c.args.place.now) size
