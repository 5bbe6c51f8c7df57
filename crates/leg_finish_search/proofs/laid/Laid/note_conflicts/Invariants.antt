-- The table stays as large, and the lists are of slots.
use Rattle.std.proofs.Common.{◌≡◌}
use Rattle.leg_finish_search.specs.Slots.{AreSlots}
use Rattle.leg_finish_search.proofs.laid.Laid.note_conflicts.Given as goal

abbrev pub invariant-loop-walk : goal.invariant-loop-walk
invariant-loop-walk g l = record {
  same : l.table ≡ l.fn.table;
  nodes : AreSlots (g.L.Lattice.size_of l.ground.lattice.now) l.nodes.items;
  vias : AreSlots (g.L.Lattice.size_of l.ground.lattice.now) l.vias.items;
}
