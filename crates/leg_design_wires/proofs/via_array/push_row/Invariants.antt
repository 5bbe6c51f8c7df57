use Rattle.std.proofs.Common.{◌≡◌, ◌-◌}
use Rattle.leg_grammar.specs.Def.ViaArray.{row_vias}
use Rattle.leg_design_wires.specs.Steps.Walk.{behind}
use Rattle.leg_design_wires.proofs.via_array.push_row.Given as goal

abbrev pub invariant-loop-k : goal.invariant-loop-k
invariant-loop-k g l =
    behind l.wires.items (row_vias l.via l.array.x_step (l.array.columns - l.k) l.at) ≡ behind l.initial.wires.items
    (row_vias l.via l.array.x_step l.array.columns l.initial.at)
