use Rattle.std.proofs.Common.{◌≡◌, drop}
use Rattle.leg_design_wires.specs.Steps.Walk.{wires_with}
use Rattle.leg_design_wires.proofs.path.Walk.go_past_all.Given as goal

abbrev pub invariant-loop-i : goal.invariant-loop-i
invariant-loop-i g l = wires_with l.scope l.width l.self (drop l.i l.items) ≡ wires_with l.scope l.width l.initial.self l.items
