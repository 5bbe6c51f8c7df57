-- One more shape, for which its piece's stand-in stands or doesn't.
use Rattle.std.proofs.Common.{◌≡◌, ℕ, ◌<◌, true, Some, slice_get, get_or, length, Contains, refl, sym, ◌∙◌, arith}
use Rattle.std.proofs.lemmas.List.Elements.{All-contains}
use Rattle.std.proofs.lemmas.List.{length-set}
use Rattle.std.proofs.lemmas.Option.{slice_get_read}
use Rattle.leg_geom.specs.Plane.{ShareTwoPoints}
use Rattle.leg_wire.proofs.StandIns.{staying_same, staying_more}
use Rattle.leg_wire.proofs.stand_ins.which_stay.Goals as goal
use Rattle.leg_wire.proofs.stand_ins.which_stay.Goals.{then-kind-stand_ins, else-kind-stand_ins+else-not-touches}

pub loop-k-preserved : goal.loop-k-preserved
loop-k-preserved g c =
    let metal = c.args.metal.now in
    let kinds = c.args.kinds.now in
    let numbers = c.args.numbers.now in
    let stand_ins = c.args.stand_ins.now in
    let i : ℕ = c.loop-k.k in
    let one = c.index-metal-k.result in
    let kind = c.index-kinds-numbers.result in
    let staying = c.loop-k.staying.items in
    let at : slice_get metal i ≡ Some one = slice_get_read metal _ i one refl (omega arith) c.index-metal-k.is in
    let one_in : Contains metal one = (i, omega arith, sym c.index-metal-k.is) in
    let place = All-contains (λ shape. shape.piece < length stand_ins) metal one c.requires.places one_in in
    let low : one.piece < length staying = omega (arith, place, c.loop-k.invariant.count) in
    let done = c.loop-k.invariant.staying in
    elim c.if-kind-stand_ins.branch [
      | then-kind-stand_ins w ↦ rw w.staying-is (record {
        count = length-set staying one.piece true ∙ c.loop-k.invariant.count;
        staying = staying_more metal kinds numbers stand_ins i staying done one kind at c.index-kinds-numbers.is low;
      })
      | else-kind-stand_ins+else-not-touches w ↦
          let same : kind.piece ≡ get_or stand_ins one.piece 0 = grind (arith, w.if-kind-stand_ins.false) in
          let two : ShareTwoPoints one.rect kind.rect = w.touches.ensures.0 (grind (arith, w.if-not-touches.false)) in
          rw w.staying-is (record {
            count = c.loop-k.invariant.count;
            staying = staying_same metal kinds numbers stand_ins i staying done one kind at c.index-kinds-numbers.is same two;
          })
    ]

pub returns-clause-staying : goal.returns-clause-staying
returns-clause-staying g c = λ k one kind below at kind_at gone. c.loop-k.invariant.staying k one kind (omega (arith, below)) at kind_at gone
