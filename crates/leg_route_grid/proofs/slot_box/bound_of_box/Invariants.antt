-- No slot of the box is nearer to the boxes so far, from the last one on.
use Rattle.std.proofs.Common.{◌≤◌, drop, length}
use Rattle.leg_route_grid.specs.declared.slot.Slot.{Slot}
use Rattle.leg_route_grid.specs.Steps.WalkBounds.{nearest, IsInBox}
use Rattle.leg_route_grid.proofs.slot_box.bound_of_box.Given as goal

abbrev pub invariant-boxes : goal.invariant-boxes
invariant-boxes l = record {
  within : l.before ≤ length l.boxes;
  most : l.least ≤ l.most;
  least : (s : Slot) → IsInBox l.ends s → l.least ≤ nearest (drop l.before l.boxes) s;
}

abbrev pub decreases-boxes : goal.decreases-boxes
decreases-boxes l = l.before
