-- A group has more rectangles than each of the two that it is cut into.
use Rattle.std.proofs.Common.{length}
use Rattle.leg_sweep.proofs.groups.+push_group.Given as goal

abbrev pub decreases-push_group : goal.decreases-push_group
decreases-push_group g l = length l.keys.now
