-- All of the way so far are slots.
use Rattle.std.proofs.Common.{◌<◌}
use Rattle.leg_finish_search.specs.Slots.{AreSlots}
use Rattle.leg_finish_search.proofs.walk_back.way_to.Given as goal

abbrev pub invariant-loop : goal.invariant-loop
invariant-loop g l = record {
  way : AreSlots (g.L.Lattice.size_of l.ground.lattice.now) l.way.items;
  at : l.at < g.L.Lattice.size_of l.ground.lattice.now;
}
