-- The reach so far is no less than it was, and that of the shapes so far.
use Rattle.std.proofs.Common.{All, take}
use Rattle.leg_route_access.specs.Steps.Reaches.{IsReach, IsWider, ReachesShape}
use Rattle.leg_route_access.proofs.reach.with_shapes.Given as goal

abbrev pub invariant-loop-shape : goal.invariant-loop-shape
invariant-loop-shape l = IsReach l.reach × IsWider l.fn.reach l.reach × All (ReachesShape l.reach l.layer) (take l.shape-index l.shapes)
