-- The grid has the via of the layer of the lower node.
use Rattle.std.proofs.Common.{◌≡◌, Some, refl, sym, ◌∙◌}
use Rattle.std.proofs.lemmas.Option.{same_Some, slice_get_within}
use Rattle.leg_route_grid.specs.Steps.SlotRanges.{IsRoutingLayerAt, IsLayerIfAny}
use Rattle.leg_route_access.proofs.ViaUp.{via_of_layer, layer_found}
use Rattle.leg_route_access.proofs.spelling.via_up.Goals as goal

pub routing_layer_of-requires : goal.routing_layer_of-requires
routing_layer_of-requires g c = rw c.layers.ensures.is c.layers.ensures.proper.layers_are.increasing

pub unwrap-place-requires : goal.unwrap-place-requires
unwrap-place-requires g c =
    let found : IsLayerIfAny c.args.grid.now.layers c.args.low.now.layer c.routing_layer_of.result = rw c.layers.ensures.is at c.routing_layer_of.ensures in
    layer_found c.args.grid.now c.grid_is_sound.ensures.proper c.requires.0 c.args.low.now c.args.high.now c.requires.1 c.routing_layer_of.result found

pub via_at-requires : goal.via_at-requires
via_at-requires g c =
    let found : IsLayerIfAny c.args.grid.now.layers c.args.low.now.layer c.routing_layer_of.result = rw c.layers.ensures.is at c.routing_layer_of.ensures in
    let at : IsRoutingLayerAt c.args.grid.now.layers c.args.low.now.layer c.unwrap-place.result = rw c.unwrap-place.ensures at found in
    slice_get_within c.args.grid.now.layers c.unwrap-place.result at.layer at.there

pub unwrap-requires : goal.unwrap-requires
unwrap-requires g c =
    let found : IsLayerIfAny c.args.grid.now.layers c.args.low.now.layer c.routing_layer_of.result = rw c.layers.ensures.is at c.routing_layer_of.ensures in
    let at : IsRoutingLayerAt c.args.grid.now.layers c.args.low.now.layer c.unwrap-place.result = rw c.unwrap-place.ensures at found in
    let there = via_of_layer c.args.grid.now c.grid_is_sound.ensures.proper c.requires.0 c.args.low.now c.args.high.now c.requires.1 c.unwrap-place.result at in
    let is : c.via_at.result ≡ Some c.requires.0 = same_Some c.via_at.result (Some c.requires.0) (sym c.via_at.ensures.is ∙ there) in
    rw is refl

pub returns : goal.returns
returns g c =
    let found : IsLayerIfAny c.args.grid.now.layers c.args.low.now.layer c.routing_layer_of.result = rw c.layers.ensures.is at c.routing_layer_of.ensures in
    let at : IsRoutingLayerAt c.args.grid.now.layers c.args.low.now.layer c.unwrap-place.result = rw c.unwrap-place.ensures at found in
    let there = via_of_layer c.args.grid.now c.grid_is_sound.ensures.proper c.requires.0 c.args.low.now c.args.high.now c.requires.1 c.unwrap-place.result at in
    let is : c.via_at.result ≡ Some c.requires.0 = same_Some c.via_at.result (Some c.requires.0) (sym c.via_at.ensures.is ∙ there) in
    let same : c.requires.0 ≡ c.unwrap.result = same_Some c.requires.0 c.unwrap.result (sym is ∙ c.unwrap.ensures) in
    rw (← same) c.requires.1
