-- The group of the ends so far.
use Rattle.std.proofs.Common.{◌≡◌, ◌+◌}
use Rattle.leg_route.specs.Steps.NetEnds.{IsGroupOf, HasLeast}
use Rattle.leg_route.proofs.net_ends.group_at.Given as goal

abbrev pub invariant-loop-k : goal.invariant-loop-k
invariant-loop-k g l = record {
  first : l.group.first ≡ l.first;
  count : l.group.first + l.group.count ≡ l.k;
  is : IsGroupOf l.grid l.listed l.group;
  least : HasLeast l.listed l.group;
}
