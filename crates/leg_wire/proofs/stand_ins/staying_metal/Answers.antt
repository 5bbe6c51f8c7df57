-- One more shape, which is added if its piece stays and its kind's latest shape is of another piece.
use Rattle.std.proofs.Common.{◌≡◌, ℕ, ◌<◌, true, false, Some, slice_get, length, get_or, refl, sym, ◌∙◌, arith}
use Rattle.std.proofs.lemmas.List.{get_or_default}
use Rattle.std.proofs.lemmas.List.Elements.{All-contains}
use Rattle.std.proofs.lemmas.Option.{slice_get_read, slice_get_within}
use Rattle.leg_wire.specs.Steps.Kinds.{AreSameMetal, IsOfKind}
use Rattle.leg_wire.proofs.StandIns.{staying_none, staying_next, latest_none, latest_next}
use Rattle.leg_wire.proofs.stand_ins.staying_metal.Goals as goal

pub loop-k-init : goal.loop-k-init
loop-k-init g c =
    let kinds = c.args.kinds.now in
    let latest : c.push_all.new.rest.items ≡ kinds = rw c.new-latest.ensures.items at c.in_ok-push_all.ensures in
    let rest : c.push_all-2.new.rest.items ≡ kinds = rw c.new-rest.ensures.items at c.in_ok-push_all-2.ensures in
    rw (latest, rest) (record { latest = latest_none kinds; rest = staying_none c.args.metal.now kinds c.args.staying.now c.requires.kinds.among })

pub add_once-requires-clause-alike : goal.add_once-requires-clause-alike
add_once-requires-clause-alike g c =
    let metal = c.args.metal.now in
    let k : ℕ = c.loop-k.k in
    let one = c.index-metal-k.result in
    let at : slice_get metal k ≡ Some one = slice_get_read metal _ k one refl (omega arith) c.index-metal-k.is in
    let of : IsOfKind AreSameMetal c.args.kinds.now (get_or c.args.numbers.now k 0) one = c.requires.kinds.each k one at in
    let late = c.index_mut.result.now in
    let like : AreSameMetal of.kind late =
    rw (sym c.index_mut.ensures.value) at (c.loop-k.invariant.latest.alike (get_or c.args.numbers.now k 0) of.kind late of.at) in
    record { layer = of.alike.layer ∙ like.layer; rect = of.alike.rect ∙ like.rect }

pub add_once-requires-clause-there : goal.add_once-requires-clause-there
add_once-requires-clause-there g c =
    let metal = c.args.metal.now in
    let k : ℕ = c.loop-k.k in
    let one = c.index-metal-k.result in
    let at : slice_get metal k ≡ Some one = slice_get_read metal _ k one refl (omega arith) c.index-metal-k.is in
    let of : IsOfKind AreSameMetal c.args.kinds.now (get_or c.args.numbers.now k 0) one = c.requires.kinds.each k one at in
    let late = c.index_mut.result.now in
    let within = slice_get_within c.args.kinds.now (get_or c.args.numbers.now k 0) of.kind of.at in
    let count = c.loop-k.invariant.latest.count in
    rw (sym c.index_mut.ensures.value) at (c.loop-k.invariant.latest.there (get_or c.args.numbers.now k 0) late (omega (arith, within, count)))

pub loop-k-preserved : goal.loop-k-preserved
loop-k-preserved g c =
    let metal = c.args.metal.now in
    let kinds = c.args.kinds.now in
    let staying = c.args.staying.now in
    let k : ℕ = c.loop-k.k in
    let one = c.index-metal-k.result in
    let at : slice_get metal k ≡ Some one = slice_get_read metal _ k one refl (omega arith) c.index-metal-k.is in
    let of : IsOfKind AreSameMetal kinds (get_or c.args.numbers.now k 0) one = c.requires.kinds.each k one at in
    let low : one.piece < length staying =
    All-contains (λ shape. shape.piece < length staying) metal one c.requires.places (k, omega arith, sym c.index-metal-k.is) in
    let done = c.in_ok-add_once.ensures in
    record {
      latest =
          latest_next kinds c.loop-k.rest.items c.loop-k.latest.items c.add_once.new.rest.items
          (get_or c.args.numbers.now k 0) one of.kind c.add_once.new.latest of.at of.alike done.alike done.there done.more c.loop-k.invariant.latest;
      rest =
          staying_next metal kinds staying k c.loop-k.rest.items c.add_once.new.rest.items one at c.loop-k.invariant.rest done.more
          (λ stays. done.stays (sym (get_or_default staying one.piece true false low) ∙ stays));
    }
