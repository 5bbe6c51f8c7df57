use Rattle.std.proofs.Common.{refl}
use Rattle.leg_route.proofs.net_ends.bring_near.Goals as goal

pub groups_left-requires-clause-groups : goal.groups_left-requires-clause-groups
groups_left-requires-clause-groups g c = rw (c.deref.ensures.value, c.deref-2.ensures.value) c.requires.groups

pub returns : goal.returns
returns g c = record {
  listed = refl;
  near = rw (c.deref.ensures.value, c.deref-2.ensures.value) at c.in_ok-left.ensures.near;
  far = rw c.deref-2.ensures.value at c.in_ok-left.ensures.left;
}
