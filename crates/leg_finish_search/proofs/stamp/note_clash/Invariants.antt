-- The table stays as large, and the list is of slots.
use Rattle.std.proofs.Common.{◌≡◌}
use Rattle.leg_finish_search.specs.Slots.{AreSlots}
use Rattle.leg_finish_search.proofs.stamp.note_clash.Given as goal

abbrev pub invariant-loop-row : goal.invariant-loop-row
invariant-loop-row g l = record {
  same : l.table ≡ l.fn.table;
  list : AreSlots (g.L.Lattice.size_of l.ground.lattice.now) l.list.items;
}
