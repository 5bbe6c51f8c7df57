use Rattle.std.proofs.Common.{take}
use Rattle.leg_drc_rules.specs.Scale.{AreLayersAt}
use Rattle.leg_drc_rules.proofs.scale_layer.layers_at.Given as goal

abbrev pub invariant-layers : goal.invariant-layers
invariant-layers g l = AreLayersAt l.n (take l.number l.layers) l.raw l.rules.items
