use Rattle.leg_route_grid.proofs.Sizes.{one_layer_more, all_layers}
use Rattle.leg_route_grid.proofs.layers.routing_layers.Goals as goal

pub loop-number-preserved : goal.loop-number-preserved
loop-number-preserved g c = one_layer_more _ _ _ _ _ _ c.loop-number-test.true c.index-layers-number.is c.loop-number.invariant c.in_ok-add_routing.ensures

pub returns : goal.returns
returns g c = all_layers _ _ _ _ c.loop-number-test.false c.loop-number.invariant
