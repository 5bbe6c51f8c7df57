-- The slots so far are sources.
use Rattle.std.proofs.Common.{◌≡◌}
use Rattle.leg_finish_search.specs.Slots.{AreSlots}
use Rattle.leg_finish_search.proofs.turn.add_sources.Given as goal

abbrev pub invariant-loop-slot : goal.invariant-loop-slot
invariant-loop-slot g l = record {
  sources : AreSlots (g.L.Lattice.size_of l.ground.lattice.now) l.tree.sources;
  groups : l.tree.groups ≡ l.fn.tree.groups;
  walks : l.tree.walks ≡ l.fn.tree.walks;
}
