use Rattle.std.proofs.Common.{◌≡◌, [], ◌∷◌, ◌++◌, drop, filter, map}
use Rattle.leg_polygon.specs.Walk.{turns, steps_from, round}
use Rattle.leg_polygon.proofs.walk.corners.Given as goal

abbrev pub invariant-sides : goal.invariant-sides
invariant-sides g l =
    l.corners.items ++ map (λ two. two.0.1) (filter turns (steps_from l.before (drop l.side-index l.rest ++ l.first ∷ [])))
    ≡ map (λ two. two.0.1) (filter turns (round (l.first ∷ l.rest)))
