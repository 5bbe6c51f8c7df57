-- The groups so far are of slots of the grid.
use Rattle.leg_route_grid.specs.Steps.Grid.{slot_total}
use Rattle.leg_finish_search.specs.Slots.{AreSlotLists}
use Rattle.leg_finish.proofs.to_join.groups_of.Given as goal

abbrev pub invariant-loop-piece : goal.invariant-loop-piece
invariant-loop-piece g l = AreSlotLists (slot_total l.grid) l.groups.items
