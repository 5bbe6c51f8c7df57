-- The numbers up to k are those of a walk.
use Rattle.leg_route_access.proofs.GridWalks.{IsWalkUpto}
use Rattle.leg_route_access.proofs.grid_walk.is_walk.Given as goal

abbrev pub invariant-loop-k : goal.invariant-loop-k
invariant-loop-k g l = IsWalkUpto l.grid l.numbers l.k
