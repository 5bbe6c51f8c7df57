use Rattle.std.proofs.Common.{◌≡◌, drop}
use Rattle.leg_grammar.specs.Def.Rule.{width_in}
use Rattle.leg_design_wires.proofs.segment.width_in.Given as goal

abbrev pub invariant-loop-width : goal.invariant-loop-width
invariant-loop-width l = width_in (drop l.width-index l.widths) l.layer ≡ width_in l.widths l.layer
