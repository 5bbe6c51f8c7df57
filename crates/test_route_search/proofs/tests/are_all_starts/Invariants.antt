-- The places so far of which no steps lie between them and a start are listed.
use Rattle.std.proofs.Common.{◌≡◌, ◌<◌, ℕ, Contains}
use Rattle.test_route_search.specs.Maze.{numbered_place}
use Rattle.test_route_search.proofs.tests.are_all_starts.Given as goal

abbrev pub invariant-loop-place : goal.invariant-loop-place
invariant-loop-place l = (a : ℕ) → a < l.place → (numbered_place l.maze.places.items a).gone ≡ 0 → Contains l.nodes a
