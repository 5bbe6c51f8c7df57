-- One more component takes its place.
use Rattle.std.proofs.Common.{◌≡◌, ◌∙◌, pos, length, take, get_or, Some, slice_get, refl, ap, sym, to_z, of_z, w64, arith}
use Rattle.std.proofs.lemmas.Option.{slice_get_read}
use Rattle.leg_geom.specs.Plane.{PointModel}
use Rattle.leg_design_records.specs.declared.records.Component.{Component}
use Rattle.leg_rules.specs.Legalise.Start.{start_of, distance}
use Rattle.leg_legal.specs.Steps.AfterPlaces.{CanTake, placed_all}
use Rattle.leg_legal.proofs.MovedDistances.{none_moved, one_more}
use Rattle.leg_legal.proofs.AfterPlaces.{can_take_next, same_count, placed_next}
use Rattle.leg_legal.proofs.Totals.{kept}
use Rattle.leg_legal.proofs.distances.set_distances.Goals as goal

pub loop-each-init : goal.loop-each-init
loop-each-init g c = none_moved _ _ c.requires.zero

pub bounds-components-number : goal.bounds-components-number
bounds-components-number g c =
    let can : CanTake c.args.design.now c.each-item.result =
    can_take_next c.args.design.now c.args.taken.now c.loop-each.each-index c.each-item.result c.requires.can c.loop-each-test.true c.each-item.is in
    omega (arith, can.number, ap length c.components.ensures.is)

pub bounds-distances-number : goal.bounds-distances-number
bounds-distances-number g c =
    let can : CanTake c.args.design.now c.each-item.result =
    can_take_next c.args.design.now c.args.taken.now c.loop-each.each-index c.each-item.result c.requires.can c.loop-each-test.true c.each-item.is in
    omega (arith, can.number, c.loop-each.invariant.count)

pub loop-each-preserved : goal.loop-each-preserved
loop-each-preserved g c =
    let design = c.args.design.now in
    let i = c.loop-each.each-index in
    let taken = c.args.taken.now in
    let next = c.each-item.result in
    let component : Component = c.index-components-number.result in
    let d = c.distance.result in
    let can : CanTake design next = can_take_next design taken i next c.requires.can c.loop-each-test.true c.each-item.is in
    let here : component ≡ get_or design.components next.number component = rw c.components.ensures.is at c.index-components-number.is in
    let there : slice_get design.components next.number ≡ Some component =
    slice_get_read design.components (length design.components) next.number component refl can.number here in
    let start : c.start_of-start.result ≡ start_of design.die component.place =
    c.start_of-start.ensures ∙ ap (λ (x : Component). start_of design.die x.place) (sym c.index-components-number.is) in
    let is : d ≡ pos (distance next.place.at (start_of design.die component.place)) =
    c.distance.ensures.is ∙ ap (λ (s : PointModel). pos (distance next.place.at s)) start in
    let same : to_z w64 (of_z w64 d) ≡ d = kept d c.distance.ensures.within in
    rw (same, placed_next design taken i next c.loop-each-test.true c.each-item.is)
    (one_more design (placed_all design (take i taken)) c.loop-each.distances next component d there is c.distance.ensures.within
    (same_count design (take i taken)) c.loop-each.invariant)
