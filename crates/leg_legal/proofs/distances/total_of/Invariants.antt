-- It is the sum of the first distances.
use Rattle.std.proofs.Common.{◌≡◌, ◌*◌, pos, ◌≤ℤ◌, take}
use Rattle.leg_geom.specs.declared.limits.TheConstants.{COORDINATE_LIMIT}
use Rattle.leg_rules.specs.Legalise.Moves.{total_of}
use Rattle.leg_legal.proofs.distances.total_of.Given as goal

abbrev pub invariant-loop-distance : goal.invariant-loop-distance
invariant-loop-distance l =
    (l.total ≡ total_of (take l.distance-index l.distances)) × (pos 0 ≤ℤ l.total) × (l.total ≤ℤ pos (4 * COORDINATE_LIMIT * l.distance-index))
