-- The table stays as large, and the list is of slots.
use Rattle.std.proofs.Common.{◌≡◌}
use Rattle.leg_finish_search.specs.Slots.{AreSlots}
use Rattle.leg_finish_search.proofs.stamp.note_near.Given as goal

abbrev pub invariant-loop-clash : goal.invariant-loop-clash
invariant-loop-clash g l = record {
  same : l.table ≡ l.fn.table;
  list : AreSlots (g.L.Lattice.size_of l.ground.lattice.now) l.list.items;
}
