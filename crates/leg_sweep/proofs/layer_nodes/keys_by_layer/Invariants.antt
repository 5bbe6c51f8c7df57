-- The keys of the items so far.
use Rattle.std.proofs.Common.{map}
use Rattle.leg_sweep.specs.Steps.Layers.{AreKeysByLayer}
use Rattle.leg_sweep.proofs.layer_nodes.keys_by_layer.Given as goal

abbrev pub invariant-loop-number : goal.invariant-loop-number
invariant-loop-number g l =
    let layered = g.R.LayeredRule in
    let fixed = g.R.PairRule.fixed l.rule in
    AreKeysByLayer (map (layered.layer_of fixed) l.items) (layered.layers_of fixed) l.number l.layers.items
