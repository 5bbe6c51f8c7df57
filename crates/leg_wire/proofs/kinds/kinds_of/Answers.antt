-- One more shape, of a kind that there was or of a new one.
use Rattle.std.proofs.Common.{◌≡◌, ℕ, Some, slice_get, ◌∙◌, refl, arith}
use Rattle.std.proofs.lemmas.List.{length-set}
use Rattle.std.proofs.lemmas.Option.{slice_get_read}
use Rattle.leg_wire.proofs.AlikeMetal.{kinds_more, kinds_all}
use Rattle.leg_wire.proofs.kinds.kinds_of.Goals as goal

pub loop-one-preserved : goal.loop-one-preserved
loop-one-preserved g c =
    let metal = c.args.metal.now in
    let i : ℕ = c.loop-one.one-index in
    let one = c.one-item.result in
    let at : slice_get metal i ≡ Some one = slice_get_read metal _ i one refl (omega arith) c.one-item.is in
    let more = c.in_ok-number.ensures.more in
    record {
      kinds =
          rw c.in_ok-push.ensures.items
          (kinds_more g.M.Metal.Alike metal i c.loop-one.kinds.items c.loop-one.numbers.items c.loop-one.invariant.kinds one at
          c.number_of_kind.new.kinds.items more.0 more.1 more.2 more.3 c.in_ok-number.number c.in_ok-number.ensures.kind);
      places = length-set c.loop-one.latest.items c.place_of-place.result c.in_ok-number.number ∙ c.loop-one.invariant.places;
    }

pub returns : goal.returns
returns g c =
    kinds_all g.M.Metal.Alike c.args.metal.now c.loop-one.one-index c.loop-one.kinds.items c.loop-one.numbers.items (omega arith) c.loop-one.invariant.kinds
