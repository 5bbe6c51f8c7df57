-- The routing layers of a library, bottom up.
use Rattle.std.specs.Prelude.{ℕ, suc, List, [], ◌∷◌, ◌++◌}
use Rattle.leg_lib_records.specs.declared.records.LayerKind.{LayerKind}
use Rattle.leg_lib_records.specs.declared.records.LayerKind.TheVariants.{Routing, Cut, Other}
use Rattle.leg_lib_records.specs.declared.records.Layer.{Layer}
use Rattle.leg_route_grid.specs.declared.layers.RoutingLayer.{RoutingLayer}

-- the layer, if it is one
abbrev pub routing_layer_at : ℕ → LayerKind → List RoutingLayer
routing_layer_at number (Routing direction width) = record { number = number; direction = direction; width = width } ∷ []
routing_layer_at number Cut = []
routing_layer_at number Other = []

-- those of these layers, the first being number n
unfoldable pub routing_from : ℕ → List Layer → List RoutingLayer
routing_from n [] = []
routing_from n (layer ∷ layers) = routing_layer_at n layer.kind ++ routing_from (suc n) layers
