-- None of the ends so far is open.
use Rattle.std.proofs.Common.{take, All}
use Rattle.leg_route_search.proofs.dives.is_one_open.Given as goal

abbrev pub invariant-loop-end : goal.invariant-loop-end
invariant-loop-end g l = All (λ a. ¬ g.G.Graph.OpenNode l.graph a) (take l.end-index l.ends)
