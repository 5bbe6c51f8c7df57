use Rattle.std.proofs.Common.{◌≡◌, drop}
use Rattle.leg_lex.specs.Until.{over}
use Rattle.leg_grammar.specs.Def.PortVia.{via_shape}
use Rattle.leg_design_floorplan.proofs.port_via.push_shapes.Given as goal

abbrev pub invariant-loop-shape : goal.invariant-loop-shape
invariant-loop-shape g l =
    over (via_shape l.library l.at) l.shapes (drop l.shape-index l.of_via) ≡ over (via_shape l.library l.at) l.initial.shapes l.of_via
