-- The groups so far.
use Rattle.std.proofs.Common.{◌≤◌, ◌-◌, length}
use Rattle.leg_route.specs.Steps.NetEnds.{AreGroupsTo}
use Rattle.leg_route.proofs.net_ends.groups_of.Given as goal

abbrev pub invariant-groups : goal.invariant-groups
invariant-groups g l = record { within : l.first ≤ length l.listed; to : AreGroupsTo l.grid l.listed l.first l.far.items }

abbrev pub decreases-groups : goal.decreases-groups
decreases-groups g l = length l.listed - l.first
