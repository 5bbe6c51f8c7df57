-- All levels below this one are done, and none of their nodes is an end.
use Rattle.std.proofs.Common.{◌≡◌, ◌+◌, ◌<◌, ◌^◌, true, length, count_by, Contains}
use Rattle.leg_route_search.specs.Steps.SideSteps.{IsStepIn}
use Rattle.leg_route_search.specs.Steps.Marks.{is_unseen}
use Rattle.leg_route_search.specs.Steps.Search.{IsSearchSoFar}
use Rattle.leg_route_search.specs.Steps.Starts.{AreLeast}
use Rattle.leg_route_search.proofs.search.nearest_end.Given as goal

abbrev pub invariant-levels : goal.invariant-levels
invariant-levels g l =
    let graph = g.G.Graph in record {
      count : length l.marks ≡ length l.fn.marks;
      least : AreLeast (graph.bound_of l.graph) l.starts (l.limit + 1) l.least;
      underway : IsSearchSoFar (graph.OpenNode l.graph) (IsStepIn graph l.graph) (Contains l.starts) (Contains l.ends)
          (graph.bound_of l.graph) l.limit l.level.number l.marks l.front.items l.left_out;
      low : l.left_out ≡ true → l.limit < 2 ^ 33;
      same_limit : l.level.limit ≡ l.limit;
    }

abbrev pub decreases-levels : goal.decreases-levels
decreases-levels g l = count_by is_unseen l.marks + length l.front.items
