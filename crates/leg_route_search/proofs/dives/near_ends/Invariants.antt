-- What was taken so far are ends.
use Rattle.std.proofs.Common.{ℕ, Contains}
use Rattle.leg_route_search.proofs.dives.near_ends.Given as goal

abbrev pub invariant-loop-k : goal.invariant-loop-k
invariant-loop-k g l = (a : ℕ) → Contains l.near.items a → Contains l.ends a
