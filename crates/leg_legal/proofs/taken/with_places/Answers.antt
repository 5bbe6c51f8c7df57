-- One more component takes its place.
use Rattle.std.proofs.Common.{◌≡◌, ◌<◌, ◌∙◌, length, take, ap, sym, arith}
use Rattle.leg_design_records.specs.Records.{DesignModel}
use Rattle.leg_legal.specs.Steps.AfterPlaces.{CanTake, placed_one, placed_all}
use Rattle.leg_legal.proofs.AfterPlaces.{can_take_next, same_count, placed_by, placed_next}
use Rattle.leg_legal.proofs.taken.with_places.Goals as goal

pub with_place-design-requires-clause-in_range : goal.with_place-design-requires-clause-in_range
with_place-design-requires-clause-in_range g c =
    let i = c.loop-each.each-index in
    let taken = c.args.taken.now in
    let is : c.loop-each.design ≡ placed_all c.args.design (take i taken) = c.loop-each.invariant in
    let can : CanTake c.args.design c.each-item.result =
    can_take_next c.args.design taken i c.each-item.result c.requires c.loop-each-test.true c.each-item.is in
    omega (arith, can.number, ap (λ (d : DesignModel). length d.components) is, same_count c.args.design (take i taken))

pub with_place-design-requires-clause-within : goal.with_place-design-requires-clause-within
with_place-design-requires-clause-within g c =
    let can : CanTake c.args.design c.each-item.result =
    can_take_next c.args.design c.args.taken.now c.loop-each.each-index c.each-item.result c.requires c.loop-each-test.true c.each-item.is in
    can.place

pub loop-each-preserved : goal.loop-each-preserved
loop-each-preserved g c =
    let i = c.loop-each.each-index in
    let taken = c.args.taken.now in
    let next = c.each-item.result in
    let is : c.loop-each.design ≡ placed_all c.args.design (take i taken) = c.loop-each.invariant in
    let can : CanTake c.args.design next = can_take_next c.args.design taken i next c.requires c.loop-each-test.true c.each-item.is in
    let below : next.number < length c.loop-each.design.components =
    omega (arith, can.number, ap (λ (d : DesignModel). length d.components) is, same_count c.args.design (take i taken)) in
    placed_by c.loop-each.design c.with_place-design.result next below c.with_place-design.ensures
    ∙ ap (λ (d : DesignModel). placed_one d next) is
    ∙ sym (placed_next c.args.design taken i next c.loop-each-test.true c.each-item.is)
