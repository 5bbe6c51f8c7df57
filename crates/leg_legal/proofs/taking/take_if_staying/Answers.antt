-- A component that stays has one more box, if it has a place.
use Rattle.std.proofs.Common.{◌≡◌, ◌<◌, length, slice_get, None, Some, refl, sym, ap, ◌∙◌}
use Rattle.std.proofs.lemmas.Bool.{false≢true}
use Rattle.std.proofs.lemmas.Option.{same_Some, none-some}
use Rattle.std.proofs.lemmas.Result.{on_ok_weaker}
use Rattle.leg_rules.specs.Placement.Box.{box_of}
use Rattle.leg_design_records.proofs.ComponentMacro.{component_read}
use Rattle.leg_legal.proofs.RunBoxes.{staying_skip, staying_more}
use Rattle.leg_legal.proofs.taking.take_if_staying.Goals as goal

pub returns-then-is_movable : goal.returns-then-is_movable
returns-then-is_movable g c =
    staying_skip c.args.design.now c.args.free.now c.args.number (λ box s. s.stays (c.if-is_movable.ensures.0 refl)) c.requires.known

pub returns-in-Some : goal.returns-in-Some
returns-in-Some g c =
    let design = c.args.design.now in
    let component = c.index-components-number.result in
    let k = c.requires.known in
    let within : c.args.number < length c.components.result.now = rw c.components.ensures.is c.requires.there in
    let there : slice_get design.components c.args.number ≡ Some component =
    component_read design c.args.number component c.components.result.now c.components.ensures.is within c.index-components-number.is in
    let told : Some c.in-Some.rect ≡ box_of design.library component = rw c.library.ensures.is at c.in-Some.ensures.is in
    on_ok_weaker c.take_box.result
    (λ grown. staying_more design c.args.free.now c.take_box.new.self c.args.number component c.in-Some.rect there (sym told)
    (λ m. false≢true (c.if-is_movable.ensures.1 m)) k (grown k.boxes k.known))
    c.take_box.ensures

pub returns-in-None : goal.returns-in-None
returns-in-None g c =
    let design = c.args.design.now in
    let component = c.index-components-number.result in
    let within : c.args.number < length c.components.result.now = rw c.components.ensures.is c.requires.there in
    let there : slice_get design.components c.args.number ≡ Some component =
    component_read design c.args.number component c.components.result.now c.components.ensures.is within c.index-components-number.is in
    let told : None ≡ box_of design.library component = rw c.library.ensures.is at c.in-None.ensures.is in
    staying_skip design c.args.free.now c.args.number
    (λ box s.
    let same : s.stands.component ≡ component = same_Some s.stands.component component (sym s.stands.there ∙ there) in
    none-some box (told ∙ ap (box_of design.library) (sym same) ∙ s.stands.placed))
    c.requires.known
