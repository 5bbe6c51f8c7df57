-- No layer before the first one that isn't below the number has it, and none behind that.
use Rattle.std.proofs.Common.{◌≡◌, true, false, pos, rules, ap, ◌∙◌, arith}
use Rattle.std.specs.Prelude.{ltb}
use Rattle.std.specs.List.Sorted.{IsPartitionPoint}
use Rattle.std.proofs.lemmas.List.Sorted.{IsPartitionPoint-from_clause}
use Rattle.std.proofs.lemmas.Option.{slice_get_within, get_or_from_slice_get}
use Rattle.leg_lib_records.specs.declared.records.Direction.TheVariants.{Horizontal}
use Rattle.leg_route_grid.specs.declared.layers.RoutingLayer.{RoutingLayer}
use Rattle.leg_route_grid.proofs.LayersBelow.{below_first}
use Rattle.leg_route_grid.proofs.SlotRanges.{no_layer}
use Rattle.leg_route_grid.proofs.layers.routing_layer_of.Goals as goal

abbrev some_layer : RoutingLayer
some_layer = record { number = 0; direction = Horizontal; width = pos 0 }

pub returns-then-place-layers : goal.returns-then-place-layers
returns-then-place-layers c =
    let layers = c.args.layers.now in
    let is_point : IsPartitionPoint (λ (own : RoutingLayer). ltb own.number c.args.number ≡ true)
    (λ (own : RoutingLayer). ltb own.number c.args.number ≡ false) layers c.partition_point-place.result =
    IsPartitionPoint-from_clause (λ (own : RoutingLayer). ltb own.number c.args.number) layers _ c.partition_point-place.ensures.partitioned
    (below_first layers c.requires c.args.number) (λ a r q k. search rules) in
    no_layer layers c.args.number c.partition_point-place.result c.requires is_point
    (λ own there is. let within = slice_get_within layers c.partition_point-place.result own there in omega (arith, within, c.if-place-layers.true))

pub returns-else-own-number : goal.returns-else-own-number
returns-else-own-number c =
    let layers = c.args.layers.now in
    let is_point : IsPartitionPoint (λ (own : RoutingLayer). ltb own.number c.args.number ≡ true)
    (λ (own : RoutingLayer). ltb own.number c.args.number ≡ false) layers c.partition_point-place.result =
    IsPartitionPoint-from_clause (λ (own : RoutingLayer). ltb own.number c.args.number) layers _ c.partition_point-place.ensures.partitioned
    (below_first layers c.requires c.args.number) (λ a r q k. search rules) in
    no_layer layers c.args.number c.partition_point-place.result c.requires is_point
    (λ own there is. c.if-own-number.false (ap (λ (l : RoutingLayer). l.number)
    (get_or_from_slice_get layers c.partition_point-place.result own some_layer there) ∙ is))
