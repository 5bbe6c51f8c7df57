-- The key is read of the component and its macro.
use Rattle.std.proofs.Common.{◌≡◌, ◌<◌, ◌≤◌, length, slice_get, Some, pos, ◌-ℤ◌, ap, ◌∙◌, arith}
use Rattle.std.proofs.lemmas.Option.{slice_get_within}
use Rattle.leg_design_records.specs.declared.limits.TheConstants.{ENTRY_LIMIT}
use Rattle.leg_design_records.proofs.ComponentMacro.{component_read, master_read}
use Rattle.leg_legal.proofs.TurnKeyOrder.{key_of_movable}
use Rattle.leg_legal.proofs.turns.turn_key.Goals as goal

pub overflow_cast-number : goal.overflow_cast-number
overflow_cast-number g c =
    let within : c.args.number < length c.args.design.now.components =
    slice_get_within c.args.design.now.components c.args.number c.requires.component c.requires.there in
    let few : length c.args.design.now.components ≤ ENTRY_LIMIT = c.components.ensures.proper.components.few in
    omega (arith, within, few)

pub returns-clause-is : goal.returns-clause-is
returns-clause-is g c =
    let design = c.args.design.now in
    let component = c.index-components-number.result in
    let master = c.index-masters-component.result in
    let inside : c.args.number < length design.components = slice_get_within design.components c.args.number c.requires.component c.requires.there in
    let within : c.args.number < length c.components.result.now = rw c.components.ensures.is inside in
    let there : slice_get design.components c.args.number ≡ Some component =
    component_read design c.args.number component c.components.result.now c.components.ensures.is within c.index-components-number.is in
    let is_master : slice_get design.library.masters component.master ≡ Some master =
    master_read design c.args.number component c.components.ensures.proper there c.masters.result.now
    (c.masters.ensures.is ∙ ap (λ library. library.masters) c.library.ensures.is) master c.index-masters-component.is in
    let size_is : c.master.inside.size ≡ master.size = ap (λ m. m.size) c.master.view_is in
    rw c.key_of.ensures
    (key_of_movable design c.args.number c.requires component master (pos 0 -ℤ c.master.inside.size.width) c.start_of.result.x there is_master
    (ap (λ s. pos 0 -ℤ s.width) size_is) (ap (λ p. p.x) c.start_of.ensures))
