-- Of each end so far how many steps are left to it.
use Rattle.std.proofs.Common.{◌≡◌, ◌<◌, ◌≤◌, ℕ, length, get_or}
use Rattle.leg_route_search.proofs.rounds.steps_told.Given as goal

abbrev pub invariant-loop-end : goal.invariant-loop-end
invariant-loop-end g l = record {
  long : length l.known.items ≡ l.end-index;
  each : (k : ℕ) → k < l.end-index → get_or l.known.items k 0 ≤ g.G.Graph.back_bound_of l.graph (get_or l.ends k 0);
}
