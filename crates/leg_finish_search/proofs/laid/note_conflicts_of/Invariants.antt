-- The table stays as large, and the lists are of slots.
use Rattle.std.proofs.Common.{◌≡◌}
use Rattle.leg_finish_search.specs.Slots.{AreSlots}
use Rattle.leg_finish_search.proofs.laid.note_conflicts_of.Given as goal

abbrev pub invariant-loop-k : goal.invariant-loop-k
invariant-loop-k g l = record {
  same : l.table ≡ l.fn.table;
  nodes : AreSlots (g.L.Lattice.size_of l.ground.lattice.now) l.nodes.items;
  vias : AreSlots (g.L.Lattice.size_of l.ground.lattice.now) l.vias.items;
}
