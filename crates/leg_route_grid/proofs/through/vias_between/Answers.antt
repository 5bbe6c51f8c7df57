use Rattle.std.proofs.Common.{◌≡◌, ℕ, ◌<◌, Some, length, slice_get, refl, arith}
use Rattle.std.proofs.lemmas.Option.{slice_get_read}
use Rattle.leg_route_grid.proofs.NotedVias.{via_of_both}
use Rattle.leg_route_grid.proofs.ViaSteps.{one_via_more}
use Rattle.leg_route_grid.proofs.through.vias_between.Goals as goal

pub loop-k-preserved : goal.loop-k-preserved
loop-k-preserved g c =
    let library = c.args.library.now in
    let layers = c.args.layers.now in
    let k : ℕ = c.loop-k.k in
    let defaults = c.in_ok-defaults.defaults.items in
    let others = c.in_ok-others.others.items in
    let are_defaults = c.in_ok-defaults.ensures in
    let are_others = c.in_ok-others.ensures in
    let default_within : k < length defaults = let count = are_defaults.count in omega (arith, count) in
    let other_within : k < length others = let count = are_others.count in omega (arith, count) in
    let default_at : slice_get defaults k ≡ Some c.index-default_via.result.now =
    slice_get_read defaults (length defaults) k c.index-default_via.result.now refl default_within c.index-default_via.ensures in
    let other_at : slice_get others k ≡ Some c.index-other.result.now =
    slice_get_read others (length others) k c.index-other.result.now refl other_within c.index-other.ensures in
    one_via_more _ _ _ _ _ _ c.loop-k.invariant c.in_ok-push.ensures.items
    (λ low high at_low at_high. rw c.or.ensures (via_of_both library layers defaults others are_defaults are_others k c.index-default_via.result.now
    c.index-other.result.now default_at other_at low high at_low at_high))
