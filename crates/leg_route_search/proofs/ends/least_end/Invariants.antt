-- None of the ends so far is reached, or the least so far is.
use Rattle.std.proofs.Common.{ℕ, take, Contains, MatchOption}
use Rattle.leg_route_search.specs.Steps.Marks.{IsAt}
use Rattle.leg_route_search.proofs.ends.least_end.Given as goal

abbrev pub invariant-loop-end : goal.invariant-loop-end
invariant-loop-end g l =
    MatchOption l.least ((a : ℕ) → Contains (take l.end-index l.ends) a → IsAt l.marks a l.level → ⊥)
    (λ end. Contains l.ends end × IsAt l.marks end l.level)
