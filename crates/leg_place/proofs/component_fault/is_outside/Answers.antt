-- A component is outside the die just where the die lacks a point of its box.
use Rattle.std.proofs.Common.{◌≡◌, ◌<◌, ◌↔◌, length, slice_get, Some, IsTrue, refl}
use Rattle.std.proofs.lemmas.Bool.{false≢true}
use Rattle.std.proofs.lemmas.Option.{slice_get_read}
use Rattle.leg_geom.specs.Plane.{HasAllPoints}
use Rattle.leg_place.proofs.Boxes.{IsOutside-test, IsOutside-unplaced}
use Rattle.leg_place.proofs.component_fault.is_outside.Goals as goal

pub returns-in-Some : goal.returns-in-Some
returns-in-Some g c =
    let design = c.args.design.now in
    let component = c.index-components-number.result in
    let within : c.args.number < length c.components.result.now = rw c.components.ensures.is c.requires in
    let there : slice_get design.components c.args.number ≡ Some component =
    rw (← c.components.ensures.is) (slice_get_read c.components.result.now _ c.args.number component refl within c.index-components-number.is) in
    let test : IsTrue c.contains.result ↔ HasAllPoints design.die c.in-Some.rect = rw c.die.ensures.is at c.contains.ensures in
    IsOutside-test design c.args.number component there c.in-Some.rect _ (rw c.library.ensures.is at c.in-Some.ensures.is) c.in-Some.ensures.proper test

pub returns-in-None : goal.returns-in-None
returns-in-None g c =
    let design = c.args.design.now in
    let component = c.index-components-number.result in
    let within : c.args.number < length c.components.result.now = rw c.components.ensures.is c.requires in
    let there : slice_get design.components c.args.number ≡ Some component =
    rw (← c.components.ensures.is) (slice_get_read c.components.result.now _ c.args.number component refl within c.index-components-number.is) in
    (λ t. absurd (false≢true t), λ out. absurd (IsOutside-unplaced design c.args.number component there (rw c.library.ensures.is at c.in-None.ensures.is) out))
