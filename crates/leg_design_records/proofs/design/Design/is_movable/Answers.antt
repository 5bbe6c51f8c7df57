-- A component is movable by its status and its macro's site.
use Rattle.std.proofs.Common.{◌≡◌, ◌<◌, length, slice_get, Some, refl, ap, ◌∙◌, arith}
use Rattle.std.specs.Option.{is_some}
use Rattle.leg_design_records.proofs.ComponentMacro.{component_read, master_read}
use Rattle.leg_design_records.proofs.MovableOrNot.{movable_test}
use Rattle.leg_design_records.proofs.design.Design.is_movable.Goals as goal

pub returns : goal.returns
returns g c =
    let design = c.args.self.now in
    let component = c.index-components-component.result in
    let master = c.index-masters-chosen.result in
    let within : c.args.component < length c.components-2.result.now = rw (c.components-2.ensures.is, ← c.components.ensures.is) (omega arith) in
    let there : slice_get design.components c.args.component ≡ Some component =
    component_read design c.args.component component c.components-2.result.now c.components-2.ensures.is within c.index-components-component.is in
    let is_master : slice_get design.library.masters component.master ≡ Some master =
    master_read design c.args.component component c.components.ensures.proper there c.masters.result.now
    (c.masters.ensures.is ∙ ap (λ library. library.masters) c.library.ensures.is) master c.index-masters-chosen.is in
    movable_test design c.args.component component master c.is_some.result there is_master (c.if-not-may_move.ensures.0 refl)
    (c.is_some.ensures ∙ ap (λ m. is_some m.site) c.master.view_is)
