-- The nodes of the layers so far, and the keys of those to come.
use Rattle.std.proofs.Common.{map}
use Rattle.leg_sweep.proofs.LayerNodes.{NodesSoFar}
use Rattle.leg_sweep.proofs.layer_nodes.nodes_by_layer.Given as goal

abbrev pub invariant-loop-of_layer : goal.invariant-loop-of_layer
invariant-loop-of_layer g l =
    let layered = g.R.LayeredRule in
    let fixed = g.R.PairRule.fixed l.rule in
    NodesSoFar l.rects (map (layered.layer_of fixed) l.items) (layered.layers_of fixed) l.layers.items l.of_layer-iterator.rest.items
