-- The way back so far, its last node first.
use Rattle.std.proofs.Common.{◌≡◌, ◌+◌, ◌-◌, length, reverse}
use Rattle.leg_rules.specs.Route.Walk.{Walk}
use Rattle.leg_route_search.specs.Steps.Marks.{IsAt}
use Rattle.leg_route_search.specs.Steps.Back.{IsReached, IsEntry}
use Rattle.leg_route_search.proofs.back.way_to.Given as goal

abbrev pub invariant-steps : goal.invariant-steps
invariant-steps g l = record {
  first_at : IsAt l.marks l.first (l.level - l.counter);
  way : Walk (IsReached l.marks) (IsEntry l.marks) l.first (reverse l.nodes.items) l.node;
  count : length l.nodes.items ≡ l.counter + 1;
}
