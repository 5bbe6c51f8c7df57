use Rattle.std.proofs.Common.{take}
use Rattle.leg_lib_records.specs.Scale.{IsLayerAt, OneForOne}
use Rattle.leg_lib_records.proofs.scale.layers_at.Given as goal

abbrev pub invariant-loop-layer : goal.invariant-loop-layer
invariant-loop-layer g l = OneForOne (IsLayerAt l.n) (take l.layer-index l.layer-items) l.layers.items
