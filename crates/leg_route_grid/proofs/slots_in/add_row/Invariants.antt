-- The slots of the columns so far are there, of which none lies behind the end.
use Rattle.std.proofs.Common.{ℕ, ◌≤◌, ◌<◌}
use Rattle.leg_route_grid.specs.Steps.Grid.{IsSlot}
use Rattle.leg_route_grid.specs.Steps.SlotRanges.{IsSlotAmong, HaveGot}
use Rattle.leg_route_grid.proofs.slots_in.add_row.Given as goal

abbrev pub invariant-loop-column : goal.invariant-loop-column
invariant-loop-column g l =
    HaveGot (IsSlotAmong (λ column m. IsSlot l.grid m l.layer l.row column) l.fn.columns.0 l.column) l.fn.slots.items l.slots.items
    × ((j : ℕ) → l.fn.columns.0 ≤ j → j < l.column → j < l.fn.columns.1)
