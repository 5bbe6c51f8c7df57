-- As many layers as turns.
use Rattle.std.proofs.Common.{◌≡◌, [], replicate}
use Rattle.leg_sweep.proofs.layer_nodes.empty_layers.Given as goal

abbrev pub invariant-loop : goal.invariant-loop
invariant-loop g l = l.layers.items ≡ replicate l.counter []
