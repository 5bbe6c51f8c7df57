-- The wires so far are those of walks over the grid, and DEF can spell them.
use Rattle.std.proofs.Common.{All, false}
use Rattle.leg_design_records.specs.WellFormedNets.{IsWire}
use Rattle.leg_rules.specs.Finish.Wires.{AreWiresOfWalks}
use Rattle.leg_finish.proofs.wires.wires_of_walks.Given as goal

abbrev pub invariant-loop-walk : goal.invariant-loop-walk
invariant-loop-walk g l = record {
  walks : AreWiresOfWalks l.design l.wires.items;
  spelled : All (IsWire l.design.library l.design.vias false) l.wires.items;
}
