-- The table stays as large, and what is laid is of the grid.
use Rattle.std.proofs.Common.{◌≡◌, All, length}
use Rattle.leg_finish_search.specs.Steps.NetWalks.{IsLaidIn}
use Rattle.leg_finish_search.proofs.rounds.lay_all.Given as goal

abbrev pub invariant-loop : goal.invariant-loop
invariant-loop g l = record {
  same : l.table ≡ l.fn.table;
  count : length l.laid ≡ length l.fn.laid;
  laid : All (IsLaidIn (g.L.Lattice.size_of l.board.ground.lattice.now)) l.laid;
}
