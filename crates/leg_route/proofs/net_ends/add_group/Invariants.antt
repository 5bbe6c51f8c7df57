-- The ends of the group so far are near.
use Rattle.leg_route.specs.Steps.NetEnds.{IsBetween, HaveComeNear}
use Rattle.leg_route.proofs.net_ends.add_group.Given as goal

abbrev pub invariant-loop-k : goal.invariant-loop-k
invariant-loop-k g l = HaveComeNear l.grid l.joined l.boxes (IsBetween l.listed l.group.first l.k) l.fn.near.items l.near.items
