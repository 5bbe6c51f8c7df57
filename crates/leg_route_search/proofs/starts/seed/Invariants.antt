-- The starts so far were tried.
use Rattle.std.proofs.Common.{◌≡◌, ℕ, length, take, Contains}
use Rattle.leg_route_search.specs.Steps.Spread.{IsSpread}
use Rattle.leg_route_search.proofs.LeastBounds.{AreLooked}
use Rattle.leg_route_search.proofs.starts.seed.Given as goal

abbrev pub invariant-loop-k : goal.invariant-loop-k
invariant-loop-k g l =
    let graph = g.G.Graph in record {
      count : length l.marks ≡ length l.fn.marks;
      looked : AreLooked (graph.bound_of l.graph) l.starts l.told l.limit l.k l.least;
      spread : IsSpread (graph.OpenNode l.graph) (λ (_ b : ℕ). Contains (take l.k l.starts) b)
          (graph.bound_of l.graph) l.limit 0 l.fn.marks l.fn.next.items l.fn.left_out l.marks l.next.items l.left_out;
    }
