-- The hull of the boxes that were taken so far.
use Rattle.std.proofs.Common.{◌-◌}
use Rattle.leg_route_grid.specs.Steps.Hulls.{IsHullAt}
use Rattle.leg_route_grid.proofs.hulls.hull_to.Given as goal

abbrev pub invariant-loop-hull : goal.invariant-loop-hull
invariant-loop-hull l = IsHullAt l.boxes l.last l.hull

abbrev pub decreases-loop-hull : goal.decreases-loop-hull
decreases-loop-hull l = l.most - l.hull.count
