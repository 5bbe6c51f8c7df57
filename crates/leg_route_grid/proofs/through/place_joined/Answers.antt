use Rattle.std.proofs.Common.{◌≡◌, ◌+◌, ◌<◌, pos, None, length, get_or, true≢false, refl, sym, ap, ◌∙◌, rules, arith}
use Rattle.std.proofs.lemmas.Option.{slice_get_within, slice_get-get_or}
use Rattle.leg_lib_records.specs.declared.records.Direction.TheVariants.{Horizontal}
use Rattle.leg_lib_records.specs.Records.{ViaModel}
use Rattle.leg_route_grid.specs.declared.layers.RoutingLayer.{RoutingLayer}
use Rattle.leg_route_grid.specs.Steps.SlotRanges.{IsRoutingLayerAt}
use Rattle.leg_route_grid.proofs.LowestLayer.{joins_lowest, joins_none, joins_one, none_above, joined_at}
use Rattle.leg_route_grid.proofs.ViaSteps.{next_layers}
use Rattle.leg_route_grid.proofs.through.place_joined.Goals as goal

abbrev some_layer : RoutingLayer
some_layer = record { number = 0; direction = Horizontal; width = pos 0 }

pub returns-in_err-place : goal.returns-in_err-place
returns-in_err-place g c =
    let via = c.args.via.now in
    let shapes : c.as_slice.result.now ≡ via.shapes = c.as_slice.ensures ∙ ap (λ (v : ViaModel). v.shapes) c.via.view_is in
    let said = rw shapes at c.in_ok-lowest.ensures in
    joins_none c.args.library.now c.args.layers.now c.requires.are via c.args.only_default c.in_ok-lowest.lowest said.0 said.1
    c.from_residual-in_err-place.result c.from_residual-in_err-place.ensures
    (λ k at. c.in_err-place.ensures k (joins_lowest c.args.library.now c.args.layers.now c.requires.are via c.args.only_default c.in_ok-lowest.lowest said.0
    said.1 k at))

pub overflow_add-place : goal.overflow_add-place
overflow_add-place g c =
    let at : IsRoutingLayerAt c.args.layers.now c.in_ok-lowest.lowest c.in_ok-place.place = c.in_ok-place.ensures in
    let within : c.in_ok-place.place < length c.args.layers.now = slice_get_within c.args.layers.now c.in_ok-place.place at.layer at.there in
    search rules

pub returns-then-place-layers : goal.returns-then-place-layers
returns-then-place-layers g c =
    let via = c.args.via.now in
    let shapes : c.as_slice.result.now ≡ via.shapes = c.as_slice.ensures ∙ ap (λ (v : ViaModel). v.shapes) c.via.view_is in
    let said = rw shapes at c.in_ok-lowest.ensures in
    joins_none c.args.library.now c.args.layers.now c.requires.are via c.args.only_default c.in_ok-lowest.lowest said.0 said.1 None refl
    (none_above c.args.library.now c.args.layers.now c.requires.are via c.args.only_default c.in_ok-lowest.lowest said.0 said.1 c.in_ok-place.place
    c.in_ok-place.ensures c.if-place-layers.true)

pub joins_as-requires-clause-routing : goal.joins_as-requires-clause-routing
joins_as-requires-clause-routing g c = next_layers c.args.library.now c.args.layers.now c.in_ok-place.place _ _ c.requires.are c.if-place-layers.false

pub returns-then-joins_as : goal.returns-then-joins_as
returns-then-joins_as g c =
    let via = c.args.via.now in
    let layers = c.args.layers.now in
    let place = c.in_ok-place.place in
    let shapes : c.as_slice.result.now ≡ via.shapes = c.as_slice.ensures ∙ ap (λ (v : ViaModel). v.shapes) c.via.view_is in
    let said = rw shapes at c.in_ok-lowest.ensures in
    let above : place + 1 < length layers = c.if-place-layers.false in
    joins_one c.args.library.now layers c.requires.are via c.args.only_default c.in_ok-lowest.lowest said.0 said.1 place c.in_ok-place.ensures (record {
      low = get_or layers place some_layer;
      high = get_or layers (place + 1) some_layer;
      at_low = slice_get-get_or layers place some_layer (omega (arith, above));
      at_high = slice_get-get_or layers (place + 1) some_layer above;
      joins = c.joins_as.ensures.0 c.if-joins_as.true;
    })

pub returns-else-joins_as : goal.returns-else-joins_as
returns-else-joins_as g c =
    let via = c.args.via.now in
    let layers = c.args.layers.now in
    let place = c.in_ok-place.place in
    let shapes : c.as_slice.result.now ≡ via.shapes = c.as_slice.ensures ∙ ap (λ (v : ViaModel). v.shapes) c.via.view_is in
    let said = rw shapes at c.in_ok-lowest.ensures in
    let above : place + 1 < length layers = c.if-place-layers.false in
    joins_none c.args.library.now layers c.requires.are via c.args.only_default c.in_ok-lowest.lowest said.0 said.1 None refl
    (λ k at. true≢false (sym (c.joins_as.ensures.1
    (joined_at c.args.library.now layers c.requires.are via c.args.only_default c.in_ok-lowest.lowest said.0 said.1 place c.in_ok-place.ensures
    (get_or layers place some_layer) (get_or layers (place + 1) some_layer)
    (slice_get-get_or layers place some_layer (omega (arith, above))) (slice_get-get_or layers (place + 1) some_layer above) k at))
    ∙ c.if-joins_as.false))
