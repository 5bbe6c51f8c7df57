use Rattle.std.proofs.Common.{◌≡◌, drop}
use Rattle.leg_grammar.specs.Def.Path.{other_layer}
use Rattle.leg_design_wires.proofs.path.other_layer.Given as goal

abbrev pub invariant-loop-shape : goal.invariant-loop-shape
invariant-loop-shape g l = other_layer l.library l.layer (drop l.shape-index l.shapes) ≡ other_layer l.library l.layer l.shapes
