use Rattle.std.proofs.Common.{◌≡◌, sym, subst, rules}
use Rattle.std.proofs.lemmas.List.{take_all}
use Rattle.std.proofs.lemmas.List.Elements.{All-more, All-same}
use Rattle.leg_lib_records.specs.Records.{ViaModel}
use Rattle.leg_flat.specs.ProperLibrary.{AreProperShapes}
use Rattle.leg_flat.proofs.proper.vias_are_proper.Goals as goal

pub loop-via-preserved : goal.loop-via-preserved
loop-via-preserved g c =
    let shapes : c.as_slice.result.now ≡ c.via-item.result.shapes = search rules in
    let proper = λ (via : ViaModel). AreProperShapes via.shapes in
    All-more proper c.args.vias.now c.loop-via.via-index c.via-item.result c.loop-via-test.true c.loop-via.invariant
    (subst proper c.via-item.is (rw shapes at c.shapes_are_proper.ensures))

pub returns : goal.returns
returns g c =
    All-same (λ (via : ViaModel). AreProperShapes via.shapes) _ _
    (sym (take_all c.loop-via.via-index c.args.vias.now c.loop-via-test.false)) c.loop-via.invariant
