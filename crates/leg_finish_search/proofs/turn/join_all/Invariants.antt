-- The table stays as large, and the tree one of the net.
use Rattle.std.proofs.Common.{◌≡◌, length}
use Rattle.leg_finish_search.specs.Steps.Tree.{IsTreeOf}
use Rattle.leg_finish_search.proofs.turn.join_all.Given as goal

abbrev pub invariant-loop : goal.invariant-loop
invariant-loop g l = record {
  same : l.table ≡ l.fn.table;
  tree : IsTreeOf (g.L.Lattice.size_of l.ground.lattice.now) (length l.net.groups.items) l.tree;
}
