-- No group so far is nearer.
use Rattle.std.proofs.Common.{◌≤◌, take, Contains}
use Rattle.leg_route.specs.declared.net_ends.EndGroup.{EndGroup}
use Rattle.leg_route.proofs.net_ends.least_far.Given as goal

abbrev pub invariant-loop-group : goal.invariant-loop-group
invariant-loop-group l = (group : EndGroup) → Contains (take l.group-index l.far) group → l.least ≤ group.least
