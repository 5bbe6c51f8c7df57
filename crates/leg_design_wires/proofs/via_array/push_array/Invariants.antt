use Rattle.std.proofs.Common.{◌≡◌, ◌-◌}
use Rattle.leg_grammar.specs.Def.ViaArray.{rows_vias}
use Rattle.leg_design_wires.specs.Steps.Walk.{behind}
use Rattle.leg_design_wires.proofs.via_array.push_array.Given as goal

abbrev pub invariant-loop-k : goal.invariant-loop-k
invariant-loop-k g l =
    behind l.wires.items (rows_vias l.via l.array (l.array.rows - l.k) l.at) ≡ behind l.initial.wires.items
    (rows_vias l.via l.array l.array.rows l.initial.at)
