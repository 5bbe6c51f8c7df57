use Rattle.std.proofs.Common.{◌++◌, false, List, All, length}
use Rattle.leg_design_records.specs.declared.records.Wire.{Wire}
use Rattle.leg_design_records.specs.WellFormedNets.{IsWire}
use Rattle.leg_rules.specs.Route.GridWalk.{IsGridWalk}
use Rattle.leg_route_access.specs.Steps.FirstWire.{SpellsAll}
use Rattle.leg_route_access.proofs.spelling.wires_of_steps.Given as goal

abbrev pub invariant-loop-rest : goal.invariant-loop-rest
invariant-loop-rest g l = record {
  walk : IsGridWalk l.design l.rest;
  begun : (more : List Wire) → SpellsAll l.design l.rest more → SpellsAll l.design l.nodes (l.wires.items ++ more);
  spelled : All (IsWire l.design.library l.design.vias false) l.wires.items;
}

abbrev pub decreases-loop-rest : goal.decreases-loop-rest
decreases-loop-rest g l = length l.rest
