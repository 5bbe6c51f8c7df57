use Rattle.std.proofs.Common.{◌≡◌, ◌<◌, length, get_or, Some, slice_get, refl}
use Rattle.std.proofs.lemmas.List.{get_or_default}
use Rattle.std.proofs.lemmas.List.Elements.{All-get_or, all_zip_more}
use Rattle.std.proofs.lemmas.Option.{slice_get_read}
use Rattle.leg_finish.specs.Steps.Places.{IsNetAt}
use Rattle.leg_finish.proofs.unfinished.nets_at.Goals as goal

pub loop-place-preserved : goal.loop-place-preserved
loop-place-preserved g c =
    let nets = c.args.nets.now in
    let places = c.args.places.now in
    let i = c.loop-place.place-index in
    let place = get_or places i 0 in
    let one = c.index-nets-place.result in
    let low : place < length nets = All-get_or (λ p. p < length nets) places i 0 c.loop-place-test.true c.requires.within in
    let there : slice_get nets place ≡ Some one = slice_get_read nets (length nets) place one refl low c.index-nets-place.is in
    let same : one.net ≡ (get_or nets place one).net = rw (← c.index-nets-place.is) refl in
    let here : IsNetAt nets place (get_or nets place one).net = record { one = one; there = there; is = same } in
    rw c.in_ok-push.ensures.items (all_zip_more (IsNetAt nets) places c.loop-place.numbers.items i place (get_or nets place one).net c.loop-place-test.true
    (get_or_default places i 0 place c.loop-place-test.true) c.loop-place.invariant here)
