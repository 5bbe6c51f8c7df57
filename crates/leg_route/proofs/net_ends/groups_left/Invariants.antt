-- The ends of those groups so far that are within reach are near, and the others are left.
use Rattle.std.proofs.Common.{take}
use Rattle.leg_route.specs.Steps.NetEnds.{HaveComeNear, IsWithin, AreBeyond}
use Rattle.leg_route.proofs.net_ends.groups_left.Given as goal

abbrev pub invariant-loop-group : goal.invariant-loop-group
invariant-loop-group g l = record {
  near : HaveComeNear l.grid l.joined l.boxes (IsWithin l.listed (take l.group-index l.far) l.reach) l.fn.near.items l.near.items;
  left : AreBeyond l.reach (take l.group-index l.far) l.left.items;
}
