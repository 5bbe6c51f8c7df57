use Rattle.std.proofs.Common.{◌+◌, fold, length}
use Rattle.leg_polygon.specs.Slab.{toggle}
use Rattle.leg_polygon.proofs.AloneNumbers.{IsSoFar}
use Rattle.leg_polygon.proofs.number_list.in_one_alone.Given as goal

abbrev pub invariant-numbers : goal.invariant-numbers
invariant-numbers g l = IsSoFar (fold toggle l.some l.others) l.alone.items l.first l.second

abbrev pub decreases-numbers : goal.decreases-numbers
decreases-numbers g l = length l.first + length l.second
