-- A movable component is unsuited just where its macro can stand on no row.
use Rattle.std.proofs.Common.{◌≡◌, ◌↔◌, ◌<◌, length, IsTrue, slice_get, Some, None, refl, sym, ap, ◌∙◌}
use Rattle.std.proofs.lemmas.Bool.{false≢true}
use Rattle.std.proofs.lemmas.Option.{slice_get_within}
use Rattle.leg_design_records.specs.Movable.{IsMovable}
use Rattle.leg_rules.specs.Legalise.Refusals.{HasRowFor}
use Rattle.leg_design_records.proofs.ComponentMacro.{component_read, master_read}
use Rattle.leg_legal.proofs.Misfits.{has_site, unsuited_just_where}
use Rattle.leg_legal.proofs.unsuited.is_unsuited.Goals as goal

pub returns-in-Some : goal.returns-in-Some
returns-in-Some g c =
    let design = c.args.design.now in
    let component = c.index-components-number.result in
    let master = c.index-masters-component.result in
    let movable : IsMovable design c.args.number = c.if-not-is_movable.ensures.0 refl in
    let inside : c.args.number < length design.components = slice_get_within design.components c.args.number movable.component movable.there in
    let within : c.args.number < length c.components.result.now = rw c.components.ensures.is inside in
    let there : slice_get design.components c.args.number ≡ Some component =
    component_read design c.args.number component c.components.result.now c.components.ensures.is within c.index-components-number.is in
    let is_master : slice_get design.library.masters component.master ≡ Some master =
    master_read design c.args.number component c.components.ensures.proper there c.masters.result.now
    (c.masters.ensures.is ∙ ap (λ library. library.masters) c.library.ensures.is) master c.index-masters-component.is in
    let site : master.site ≡ Some c.in-Some.site = sym (ap (λ m. m.site) c.master.view_is) ∙ c.in-Some.is in
    let size_is : c.master.inside.size ≡ master.size = ap (λ m. m.size) c.master.view_is in
    let test : IsTrue c.has_row_for.result ↔ HasRowFor design master.size c.in-Some.site = rw size_is at c.has_row_for.ensures in
    unsuited_just_where design c.args.number component master c.in-Some.site there is_master site c.has_row_for.result movable test

pub returns-in-None : goal.returns-in-None
returns-in-None g c =
    let design = c.args.design.now in
    let component = c.index-components-number.result in
    let master = c.index-masters-component.result in
    let movable : IsMovable design c.args.number = c.if-not-is_movable.ensures.0 refl in
    let inside : c.args.number < length design.components = slice_get_within design.components c.args.number movable.component movable.there in
    let within : c.args.number < length c.components.result.now = rw c.components.ensures.is inside in
    let there : slice_get design.components c.args.number ≡ Some component =
    component_read design c.args.number component c.components.result.now c.components.ensures.is within c.index-components-number.is in
    let is_master : slice_get design.library.masters component.master ≡ Some master =
    master_read design c.args.number component c.components.ensures.proper there c.masters.result.now
    (c.masters.ensures.is ∙ ap (λ library. library.masters) c.library.ensures.is) master c.index-masters-component.is in
    let none : master.site ≡ None = sym (ap (λ m. m.site) c.master.view_is) ∙ c.in-None.is in
    (λ t. absurd (false≢true t), λ u. absurd (has_site design c.args.number component master there is_master movable none))
