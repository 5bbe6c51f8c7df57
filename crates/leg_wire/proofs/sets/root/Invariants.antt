-- The number where the way stands is in the same set, and no root has changed.
use Rattle.leg_wire.proofs.WayUp.{IsOnWay}
use Rattle.leg_wire.proofs.sets.root.Given as goal

abbrev pub invariant-up : goal.invariant-up
invariant-up g l = IsOnWay l.fn.parents.items l.number l.parents.items l.at l.parent

abbrev pub decreases-up : goal.decreases-up
decreases-up g l = l.at
