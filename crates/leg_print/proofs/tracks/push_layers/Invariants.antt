use Rattle.std.proofs.Common.{◌≡◌, ◌++◌, map, take}
use Rattle.leg_output.specs.Words.{spaced}
use Rattle.leg_output.specs.Names.{layer_name}
use Rattle.leg_print.proofs.tracks.push_layers.Given as goal

abbrev pub invariant-loop-layer : goal.invariant-loop-layer
invariant-loop-layer g l = l.text.items ≡ l.initial.text.items ++ spaced (map (layer_name l.design) (take l.layer-index l.layers))
