-- What is known now of the ends so far, and the least of it.
use Rattle.std.proofs.Common.{◌≡◌, ◌<◌, ◌≤◌, ℕ, length, get_or}
use Rattle.leg_route_search.specs.Steps.Dive.{IsKnownNow}
use Rattle.leg_route_search.proofs.dives.least_left.Given as goal

abbrev pub invariant-loop-k : goal.invariant-loop-k
invariant-loop-k g l = record {
  one_each : length l.known ≡ length l.ends;
  done : (j : ℕ) → j < l.k → IsKnownNow l.marks (get_or l.ends j 0) (get_or l.fn.known j 0) (get_or l.known j 0);
  rest : (j : ℕ) → l.k ≤ j → get_or l.known j 0 ≡ get_or l.fn.known j 0;
  low : (j : ℕ) → j < l.k → l.least ≤ get_or l.known j 0;
}
