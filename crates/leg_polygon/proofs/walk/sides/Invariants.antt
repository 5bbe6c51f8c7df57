use Rattle.std.proofs.Common.{◌≡◌, [], ◌∷◌, ◌++◌, drop, filter}
use Rattle.leg_polygon.specs.Walk.{has_length, steps_from, sides}
use Rattle.leg_polygon.proofs.walk.sides.Given as goal

abbrev pub invariant-points : goal.invariant-points
invariant-points g l =
    l.sides.items ++ filter has_length (steps_from l.before (drop l.point-index l.rest ++ l.first ∷ [])) ≡ sides (l.first ∷ l.rest)
