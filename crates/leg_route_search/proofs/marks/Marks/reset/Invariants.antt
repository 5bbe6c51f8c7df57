-- Each node that still has a mark is noted, and no node has come or gone.
use Rattle.std.proofs.Common.{◌≡◌, length}
use Rattle.leg_route_search.specs.Steps.Marks.{IsNoted}
use Rattle.leg_route_search.proofs.marks.Marks.reset.Given as goal

abbrev pub invariant-loop-node : goal.invariant-loop-node
invariant-loop-node g l = record {
  noted : IsNoted l.self-inside.of_nodes.items l.self-inside.noted.items;
  count : length l.self-inside.of_nodes.items ≡ length l.fn.self;
}

abbrev pub decreases-loop-node : goal.decreases-loop-node
decreases-loop-node g l = length l.self-inside.noted.items
