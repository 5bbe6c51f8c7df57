-- A shape and that which stands for its kind are both of the metal.
use Rattle.std.proofs.Common.{◌≡◌, ◌<◌, length, Contains, Some, slice_get, refl, sym, arith}
use Rattle.std.proofs.lemmas.Option.{slice_get_read}
use Rattle.std.proofs.lemmas.List.Elements.{All-contains}
use Rattle.leg_wire.proofs.SomeMetal.{some_more, kept_more, alike_more, kind_among}
use Rattle.leg_wire.proofs.joining.unite_alike.Goals as goal

pub unite_touching-requires-clause-b : goal.unite_touching-requires-clause-b
unite_touching-requires-clause-b g c =
    let metal = c.args.metal.now in
    let kind = c.index-kinds-numbers.result in
    let has : Contains metal kind =
    kind_among metal c.args.kinds.now c.args.numbers.now c.requires.count c.requires.within c.requires.among c.loop-k.k _ kind
    (omega arith) c.index-kinds-numbers.is in
    let low = All-contains (λ shape. shape.piece < length c.args.sets.now) metal kind c.requires.places has in
    omega (arith, low, c.loop-k.invariant.some.size)

pub loop-k-preserved : goal.loop-k-preserved
loop-k-preserved g c =
    let metal = c.args.metal.now in
    let one = c.index-metal-k.result in
    let kind = c.index-kinds-numbers.result in
    let has : Contains metal kind =
    kind_among metal c.args.kinds.now c.args.numbers.now c.requires.count c.requires.within c.requires.among c.loop-k.k _ kind
    (omega arith) c.index-kinds-numbers.is in
    let one_in : Contains metal one = (c.loop-k.k, omega arith, sym c.index-metal-k.is) in
    let after = c.unite_touching.new.sets in
    let step = c.unite_touching.ensures in
    let some = some_more metal (length c.args.sets.now) c.loop-k.sets after c.loop-k.invariant.some one kind one_in has step in
    let kept = kept_more one kind c.loop-k.sets after step in
    let at : slice_get metal c.loop-k.k ≡ Some one = slice_get_read metal _ c.loop-k.k one refl (omega arith) c.index-metal-k.is in
    let low = All-contains (λ shape. shape.piece < length c.args.sets.now) metal one c.requires.places one_in in
    record {
      some = some;
      kept = λ a b together. kept a b (c.loop-k.invariant.kept a b together);
      alike =
          alike_more metal c.args.kinds.now c.args.numbers.now c.loop-k.k c.loop-k.sets after c.loop-k.invariant.alike kept one kind at c.index-kinds-numbers.is
          (omega (arith, low, some.size)) step;
    }
