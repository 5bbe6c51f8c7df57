-- A net for each so far, with groups of slots of the grid.
use Rattle.std.proofs.Common.{◌≡◌, All, length}
use Rattle.leg_route_grid.specs.Steps.Grid.{slot_total}
use Rattle.leg_finish_search.specs.declared.net.NetToJoin.{NetToJoin}
use Rattle.leg_finish_search.specs.Slots.{AreSlotLists}
use Rattle.leg_finish.proofs.to_join.nets_to_join.Given as goal

abbrev pub invariant-loop-net : goal.invariant-loop-net
invariant-loop-net g l = record {
  count : length l.joined.items ≡ l.net-index;
  within : All (λ (net : NetToJoin g.row.A.Denot). AreSlotLists (slot_total l.grid) net.groups.items) l.joined.items;
}
