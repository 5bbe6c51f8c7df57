-- The slots of the rows so far are told, of which none lies behind the end.
use Rattle.std.proofs.Common.{ℕ, ◌≤◌, ◌<◌}
use Rattle.leg_route_grid.specs.Steps.SlotRanges.{IsSlotAmong, IsInRow}
use Rattle.leg_route_access.specs.Steps.AccessUpdates.{AreAccessAfter}
use Rattle.leg_route_access.proofs.added.add_in_rows.Given as goal

abbrev pub invariant-loop-row : goal.invariant-loop-row
invariant-loop-row g l =
    AreAccessAfter l.grid l.shape (IsSlotAmong (λ row m. IsInRow l.grid l.layer row l.columns m) l.fn.rows.0 l.row) l.fn.slots l.slots
    × ((j : ℕ) → l.fn.rows.0 ≤ j → j < l.row → j < l.fn.rows.1)
