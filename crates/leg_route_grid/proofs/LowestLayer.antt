-- The routing layer from which a via leads up is the lowest one on which its shapes lie.
use Rattle.std.proofs.Common.{◌≡◌, ℕ, ◌+◌, ◌<◌, ◌≤◌, ◌↔◌, inl, inr, Bool, true, false, List, Any, All, length, get_or, Option, None, Some, slice_get, sym, ap, ◌∙◌, arith}
use Rattle.std.proofs.lemmas.List.{length-map, get_or-map}
use Rattle.std.proofs.lemmas.Option.{none-some, same_Some, slice_get_within}
use Rattle.leg_lib_records.specs.declared.records.Shape.{Shape}
use Rattle.leg_lib_records.specs.JoinLaw.{IsPart, Joins as JoinsThree}
use Rattle.leg_lib_records.specs.GoodVia.{uses_of, parts_of}
use Rattle.leg_lib_records.specs.Records.{LibraryModel, ViaModel}
use Rattle.leg_route_grid.specs.declared.layers.RoutingLayer.{RoutingLayer}
use Rattle.leg_rules.specs.Route.Between.{JoinsLayers}
use Rattle.leg_route_grid.specs.Steps.Grid.{AreRoutingLayers}
use Rattle.leg_route_grid.specs.Steps.Joining.{JoinsNodes, JoinsAt}
use Rattle.leg_route_grid.specs.Steps.SlotRanges.{IsRoutingLayerAt}
use Rattle.leg_route_grid.proofs.JoinsPair.{part_of, used_by_shapes}
use Rattle.leg_route_grid.proofs.SlotRanges.{one_layer}

joins_them : (library : LibraryModel) (low high : ℕ) (only_default : Bool) (via : ViaModel) → JoinsNodes library low high only_default via
    → JoinsLayers library low high via
joins_them library low high true via joins = joins.joins
joins_them library low high false via joins = joins

-- no shape lies below
none_below : (library : LibraryModel) (via : ViaModel) (low cut high : ℕ) → JoinsThree (uses_of library.layers) (parts_of via.shapes) low cut high
    → All (λ shape. low ≤ shape.layer) via.shapes
none_below library via low cut high joins k shape within = by part where
  there : k < length (parts_of via.shapes)
  there = rw (length-map via.shapes part_of) within

  part : IsPart low cut high (part_of (get_or via.shapes k shape))
  part = rw (get_or-map part_of via.shapes k shape (part_of shape) within) at (joins.each k (part_of shape) there)

  by : IsPart low cut high (part_of (get_or via.shapes k shape)) → low ≤ (get_or via.shapes k shape).layer
  by (inl at) = omega (arith, at, joins.above)
  by (inr (inl at, holds)) = omega (arith, at)
  by (inr (inr at, holds)) = omega (arith, at, joins.above, joins.below)

-- a layer on which a shape lies isn't below those below which none lies
upto_used : (shapes : List Shape) (low used : ℕ) → All (λ shape. low ≤ shape.layer) shapes → Any (λ shape. shape.layer ≡ used) shapes → low ≤ used
upto_used shapes low used least (k, shape, within, is, on) = let upto : low ≤ shape.layer = rw is at (least k shape within) in omega (arith, upto, on)

module _ (library : LibraryModel) (layers : List RoutingLayer) (are : AreRoutingLayers library layers) (via : ViaModel) (only_default : Bool) (lowest : ℕ)
    (used : Any (λ shape. shape.layer ≡ lowest) via.shapes) (least : All (λ shape. lowest ≤ shape.layer) via.shapes) where
  pub joins_lowest : (k : ℕ) → JoinsAt library layers only_default via k → IsRoutingLayerAt layers lowest k
  joins_lowest k at =
      let joins = joins_them library at.low.number at.high.number only_default via at.joins in
      let down = upto_used via.shapes lowest at.low.number least ((used_by_shapes via.shapes at.low.number).1 joins.joins.low_used) in
      let up = upto_used via.shapes at.low.number lowest (none_below library via at.low.number joins.cut at.high.number joins.joins) used in
      record { layer = at.low; there = at.at_low; is = omega (arith, down, up) }

  -- it joins no two layers where none has the number
  pub joins_none : (result : Option ℕ) → result ≡ None → ((k : ℕ) → ¬ JoinsAt library layers only_default via k) → (k : ℕ)
      → (result ≡ Some k) ↔ JoinsAt library layers only_default via k
  joins_none result is none k = (λ same. absurd (none-some k (sym is ∙ same)), λ at. absurd (none k at))

  module _ (place : ℕ) (at_place : IsRoutingLayerAt layers lowest place) where
    pub only_there : (k : ℕ) → JoinsAt library layers only_default via k → k ≡ place
    only_there k at = one_layer layers are.increasing lowest k place (joins_lowest k at) at_place

    pub joins_one : JoinsAt library layers only_default via place → (k : ℕ) → (Some place ≡ Some k) ↔ JoinsAt library layers only_default via k
    joins_one here k = (
      λ same. let is : place ≡ k = same_Some place k same in rw (← is) here,
      λ at. ap Some (sym (only_there k at)),
    )

    -- nor where there is no layer above
    pub none_above : length layers ≤ place + 1 → (k : ℕ) → ¬ JoinsAt library layers only_default via k
    none_above most k at = let within = slice_get_within layers (k + 1) at.high at.at_high in omega (arith, most, within, only_there k at)

    pub joined_at : (low high : RoutingLayer) → slice_get layers place ≡ Some low → slice_get layers (place + 1) ≡ Some high → (k : ℕ)
        → JoinsAt library layers only_default via k → JoinsNodes library low.number high.number only_default via
    joined_at low high at_low at_high k at =
        let is = only_there k at in
        let is_low : at.low ≡ low = same_Some at.low low (sym at.at_low ∙ ap (slice_get layers) is ∙ at_low) in
        let is_high : at.high ≡ high = same_Some at.high high (sym at.at_high ∙ ap (λ n. slice_get layers (n + 1)) is ∙ at_high) in
        rw (is_low, is_high) at at.joins
