-- What the marks say stays true, and each walk has as many steps as the next round looks for.
use Rattle.std.proofs.Common.{All}
use Rattle.leg_route_search.specs.Steps.SideSteps.{IsStepIn}
use Rattle.leg_route_search.specs.Steps.Dive.{IsStartIn, IsFarNode, AreFar, AreTrueMarks}
use Rattle.leg_route_search.proofs.dives.near_walk.Given as goal

abbrev pub invariant-rounds : goal.invariant-rounds
invariant-rounds g l =
    let graph = g.G.Graph in record {
      known : AreTrueMarks graph l.graph l.marks;
      far : All (IsFarNode (graph.OpenNode l.graph) (IsStepIn graph l.graph) (IsStartIn graph l.graph) l.left) l.ends;
      of_ends : AreFar (graph.OpenNode l.graph) (IsStepIn graph l.graph) (IsStartIn graph l.graph) l.ends l.known;
    }
