-- It is the greatest of the first distances.
use Rattle.std.proofs.Common.{◌≡◌, take}
use Rattle.leg_rules.specs.Legalise.Moves.{greatest_of}
use Rattle.leg_legal.proofs.distances.greatest_of.Given as goal

abbrev pub invariant-loop-distance : goal.invariant-loop-distance
invariant-loop-distance l = l.greatest ≡ greatest_of (take l.distance-index l.distances)
