-- No steps lie between a start and the nodes so far.
use Rattle.std.proofs.Common.{◌≡◌, take, All}
use Rattle.test_route_search.specs.Maze.{numbered_place}
use Rattle.test_route_search.proofs.tests.are_starts.Given as goal

abbrev pub invariant-loop-node : goal.invariant-loop-node
invariant-loop-node l = All (λ a. (numbered_place l.maze.places.items a).gone ≡ 0) (take l.node-index l.nodes)
