-- One more via is noted where it joins two layers, and else none.
use Rattle.std.proofs.Common.{◌≡◌, ℕ, ◌<◌, length, get_or, Option, None, Some, slice_get, refl, sym, ap, ◌∙◌, arith}
use Rattle.std.specs.Option.{unwrap_or}
use Rattle.std.proofs.lemmas.List.{get_or_read}
use Rattle.std.proofs.lemmas.Option.{none-some, same_Some, slice_get_within}
use Rattle.leg_route_grid.specs.Steps.Joining.{JoinsAt}
use Rattle.leg_route_grid.proofs.FirstVia.{via_read}
use Rattle.leg_route_grid.proofs.NotedVias.{all_noted, via_skipped, via_noted}
use Rattle.leg_route_grid.proofs.through.first_vias.Goals as goal
use Rattle.leg_route_grid.proofs.through.first_vias.Goals.{in-Some, in_default}

pub index_mut-requires : goal.index_mut-requires
index_mut-requires g c =
    let here : JoinsAt c.args.library.now c.args.layers.now c.args.only_default c.via-item.result c.in-Some.place =
    (c.in-Some.ensures c.in-Some.place).0 refl in
    let within = slice_get_within c.args.layers.now c.in-Some.place here.low here.at_low in
    let whole : c.loop-number.firsts.len ≡ length c.loop-number.firsts.items = c.loop-number.firsts.ok.0 in
    omega (arith, within, whole, c.loop-number.invariant.count)

pub loop-number-preserved : goal.loop-number-preserved
loop-number-preserved g c =
    let library = c.args.library.now in
    let layers = c.args.layers.now in
    let only_default = c.args.only_default in
    let number : ℕ = c.loop-number.number in
    let via = c.via-item.result in
    let firsts = c.loop-number.firsts.items in
    let there : slice_get library.vias number ≡ Some via = rw (← c.vias-via-items.ensures.is) (via_read _ _ _ c.loop-number-test.true c.via-item.is) in
    elim c.match-place_joined.branch [
      | in-Some w ↦
          let place = w.in-Some.place in
          let here : JoinsAt library layers only_default via place = (w.in-Some.ensures place).0 refl in
          let only : (k : ℕ) → JoinsAt library layers only_default via k → k ≡ place = λ k at. sym (same_Some place k ((w.in-Some.ensures k).1 at)) in
          let low = slice_get_within layers place here.low here.at_low in
          let within : place < length firsts = omega (arith, low, c.loop-number.invariant.count) in
          let old : w.index_mut.result.now ≡ get_or firsts place None = get_or_read firsts place w.index_mut.result.now within w.index_mut.ensures.value None in
          let new : w.note_via.new.first ≡ Some (unwrap_or (get_or firsts place None) number) =
          w.note_via.ensures ∙ ap (λ (o : Option ℕ). Some (unwrap_or o number)) old in
          rw (w.firsts-is, new) (via_noted library layers only_default number via there firsts c.loop-number.invariant place within here only)
      | in_default w ↦
          rw w.firsts-is (via_skipped library layers only_default number via there firsts c.loop-number.invariant
          (λ k at. none-some k (sym w.in_default.is ∙ (c.place_joined.ensures k).1 at)))
    ]

pub returns : goal.returns
returns g c =
    all_noted c.args.library.now c.args.layers.now c.args.only_default c.loop-number.number c.loop-number.firsts.items
    (rw c.vias-via-items.ensures.is at c.loop-number-test.false) c.loop-number.invariant
