-- The marks stay those of the graph, and the limit grows by more each time.
use Rattle.std.proofs.Common.{◌≡◌, ◌+◌, ◌-◌, ◌^◌, ◌<◌, ◌≤◌, length}
use Rattle.leg_route_search.specs.Steps.Starts.{AreLeast}
use Rattle.leg_route_search.proofs.rounds.far_walk.Given as goal

abbrev pub invariant-rounds : goal.invariant-rounds
invariant-rounds g l = record {
  count : length l.marks ≡ length l.fn.marks;
  least : AreLeast (g.G.Graph.bound_of l.graph) l.starts l.told l.least.items;
  told_grows : l.told ≤ l.limit + 1;
  grows : 0 < l.growth;
  slowly : l.growth ≤ l.limit + 2;
}

abbrev pub decreases-rounds : goal.decreases-rounds
decreases-rounds g l = 2 ^ 33 - l.limit
