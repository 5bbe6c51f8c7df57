-- The slots of the columns so far are told, of which none lies behind the end.
use Rattle.std.proofs.Common.{ℕ, ◌≤◌, ◌<◌}
use Rattle.leg_route_grid.specs.Steps.Grid.{IsSlot}
use Rattle.leg_route_grid.specs.Steps.SlotRanges.{IsSlotAmong}
use Rattle.leg_route_access.specs.Steps.AccessUpdates.{AreAccessAfter}
use Rattle.leg_route_access.proofs.added.add_in_row.Given as goal

abbrev pub invariant-loop-column : goal.invariant-loop-column
invariant-loop-column g l =
    AreAccessAfter l.grid l.shape (IsSlotAmong (λ column m. IsSlot l.grid m l.layer l.row column) l.fn.columns.0 l.column) l.fn.slots l.slots
    × ((j : ℕ) → l.fn.columns.0 ≤ j → j < l.column → j < l.fn.columns.1)
