use Rattle.std.proofs.Common.{◌≡◌, ◌++◌, drop}
use Rattle.leg_route_grid.specs.Steps.LayerList.{routing_from}
use Rattle.leg_route_grid.proofs.layers.routing_layers.Given as goal

abbrev pub invariant-loop-number : goal.invariant-loop-number
invariant-loop-number g l = l.found.items ++ routing_from l.number (drop l.number l.layers) ≡ routing_from 0 l.layers
