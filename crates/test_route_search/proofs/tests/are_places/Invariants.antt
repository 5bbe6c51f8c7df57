-- The nodes so far are places.
use Rattle.std.proofs.Common.{◌<◌, length, take, All}
use Rattle.test_route_search.proofs.tests.are_places.Given as goal

abbrev pub invariant-loop-node : goal.invariant-loop-node
invariant-loop-node l = All (λ a. a < length l.maze.places.items) (take l.node-index l.nodes)
