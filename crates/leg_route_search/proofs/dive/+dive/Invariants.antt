-- What is known of the sides so far, and that fewer steps are left each time.
use Rattle.std.proofs.Common.{take, All}
use Rattle.leg_route_search.specs.Steps.Dive.{IsStartIn, IsFarFrom, AreTrueMarks}
use Rattle.leg_route_search.proofs.dive.+dive.Given as goal

abbrev pub invariant-loop-side : goal.invariant-loop-side
invariant-loop-side g l =
    let graph = g.G.Graph in record {
      known : AreTrueMarks graph l.graph l.marks;
      far : All (IsFarFrom (graph.IsBeside l.graph) (graph.OpenStep l.graph) (graph.OpenNode l.graph)
          (IsStartIn graph l.graph) l.steps l.node) (take l.side-index l.side-items);
    }

abbrev pub decreases-dive : goal.decreases-dive
decreases-dive g l = l.left
