-- The steps from the nodes so far were tried.
use Rattle.std.proofs.Common.{◌≡◌, length, take, Contains}
use Rattle.leg_route_search.specs.Steps.SideSteps.{IsStepTo}
use Rattle.leg_route_search.specs.Steps.Spread.{IsSpread}
use Rattle.leg_route_search.proofs.level.follow.Given as goal

abbrev pub invariant-loop-node : goal.invariant-loop-node
invariant-loop-node g l =
    let graph = g.G.Graph in record {
      count : length l.marks ≡ length l.fn.marks;
      spread : IsSpread (graph.OpenNode l.graph)
          (λ a b. Contains (take l.node-index l.front) a × IsStepTo (graph.IsBeside l.graph) (graph.OpenStep l.graph) l.side a b)
          (graph.bound_of l.graph) l.level.limit l.level.number l.fn.marks l.fn.next.items l.fn.left_out l.marks l.next.items l.left_out;
    }
