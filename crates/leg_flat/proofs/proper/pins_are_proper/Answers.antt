use Rattle.std.proofs.Common.{◌≡◌, sym, subst, rules}
use Rattle.std.proofs.lemmas.List.{take_all}
use Rattle.std.proofs.lemmas.List.Elements.{All-more, All-same}
use Rattle.leg_lib_records.specs.Records.{MasterPinModel}
use Rattle.leg_flat.specs.ProperLibrary.{AreProperShapes}
use Rattle.leg_flat.proofs.proper.pins_are_proper.Goals as goal

pub loop-pin-preserved : goal.loop-pin-preserved
loop-pin-preserved g c =
    let shapes : c.as_slice.result.now ≡ c.pin-item.result.shapes = search rules in
    let proper = λ (pin : MasterPinModel). AreProperShapes pin.shapes in
    All-more proper c.args.pins.now c.loop-pin.pin-index c.pin-item.result c.loop-pin-test.true c.loop-pin.invariant
    (subst proper c.pin-item.is (rw shapes at c.shapes_are_proper.ensures))

pub returns : goal.returns
returns g c =
    All-same (λ (pin : MasterPinModel). AreProperShapes pin.shapes) _ _
    (sym (take_all c.loop-pin.pin-index c.args.pins.now c.loop-pin-test.false)) c.loop-pin.invariant
