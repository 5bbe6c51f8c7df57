-- Each piece of the nets so far can be reached.
use Rattle.std.proofs.Common.{◌≡◌, length}
use Rattle.std.specs.List.{AllWithin}
use Rattle.leg_route_grid.specs.Steps.Grid.{slot_total}
use Rattle.leg_finish.proofs.FirstReach.{IsReached}
use Rattle.leg_finish.proofs.reach.first_unreachable.Given as goal

abbrev pub invariant-loop-net : goal.invariant-loop-net
invariant-loop-net g l = record {
  reached : AllWithin (IsReached l.design l.flat) l.nets 0 l.net-index;
  count : length l.marks ≡ slot_total l.grid;
}
