-- The nearest of the boxes so far, from the last one on.
use Rattle.std.proofs.Common.{◌≡◌, ◌≤◌, min, drop, length}
use Rattle.leg_route_grid.specs.Steps.WalkBounds.{nearest}
use Rattle.leg_route_grid.proofs.slot_box.bound.Given as goal

abbrev pub invariant-boxes : goal.invariant-boxes
invariant-boxes g l = record {
  within : l.before ≤ length l.boxes;
  least : l.least ≡ min l.most (nearest (drop l.before l.boxes) l.slot);
}

abbrev pub decreases-boxes : goal.decreases-boxes
decreases-boxes g l = l.before
