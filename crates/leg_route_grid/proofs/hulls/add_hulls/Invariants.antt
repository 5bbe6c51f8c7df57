-- The hulls so far.
use Rattle.std.proofs.Common.{◌≡◌, length}
use Rattle.leg_route_grid.specs.Steps.Hulls.{AreEachHull}
use Rattle.leg_route_grid.proofs.hulls.add_hulls.Given as goal

abbrev pub invariant-loop-last : goal.invariant-loop-last
invariant-loop-last g l = record {
  count : length l.hulls.items ≡ l.last;
  each : AreEachHull l.boxes l.hulls.items;
}
