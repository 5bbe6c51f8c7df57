use Rattle.std.proofs.Common.{◌≡◌, ◌+◌, ◌≤◌, ◌⊎◌, inl, inr, true, false, length, rules, ap, arith}
use Rattle.std.specs.Prelude.{ltb}
use Rattle.std.specs.List.Sorted.{IsPartitionPoint}
use Rattle.std.proofs.lemmas.List.Sorted.{IsPartitionPoint-from_clause}
use Rattle.leg_route_grid.specs.declared.layers.RoutingLayer.{RoutingLayer}
use Rattle.leg_route_grid.proofs.LayersBelow.{below_first}
use Rattle.leg_route_access.proofs.NearLayers.{near_layers}
use Rattle.leg_route_access.proofs.reach.layers_near.Goals.{then-above-layers, else-above-layers}
use Rattle.leg_route_access.proofs.reach.layers_near.Goals as goal

pub returns : goal.returns
returns g c =
    let layers = c.args.grid.now.layers in
    let point = c.partition_point-above.result in
    let is : c.layers-layers.result.now ≡ layers = c.layers-layers.ensures.is in
    let len : length c.layers-layers.result.now ≡ length layers = ap length is in
    let is_grid = c.layers-layers.ensures.proper in
    let bound : point ≤ length layers = rw is at c.partition_point-above.ensures.bound in
    let is_point : IsPartitionPoint (λ (own : RoutingLayer). ltb own.number c.args.layer ≡ true)
    (λ (own : RoutingLayer). ltb own.number c.args.layer ≡ false) layers point =
    IsPartitionPoint-from_clause (λ (own : RoutingLayer). ltb own.number c.args.layer) layers _ (rw is at c.partition_point-above.ensures.partitioned)
    (below_first layers is_grid.layers_are.increasing c.args.layer) (λ a r q k. search rules) in
    let end : (c.if-above-layers.end ≤ length layers) × ((c.if-above-layers.end ≡ point + 1) ⊎ (c.if-above-layers.end ≡ length layers)) =
    elim c.if-above-layers.branch [
      | then-above-layers w ↦ let less = w.if-above-layers.true in (omega (arith, less, len, w.end-is), inl (omega (arith, w.end-is)))
      | else-above-layers w ↦ let most = w.if-above-layers.false in (omega (arith, bound, w.end-is), inr (omega (arith, bound, most, len, w.end-is)))
    ] in
    near_layers c.args.grid.now is_grid c.args.layer point bound is_point c.saturating_sub.result c.if-above-layers.end c.saturating_sub.ensures end.0 end.1
