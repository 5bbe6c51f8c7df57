-- The slots of the rows so far are there, of which none lies behind the end.
use Rattle.std.proofs.Common.{ℕ, ◌≤◌, ◌<◌}
use Rattle.leg_route_grid.specs.Steps.SlotRanges.{IsSlotAmong, IsInRow, HaveGot}
use Rattle.leg_route_grid.proofs.slots_in.add_rows.Given as goal

abbrev pub invariant-loop-row : goal.invariant-loop-row
invariant-loop-row g l =
    HaveGot (IsSlotAmong (λ row m. IsInRow l.grid l.layer row l.columns m) l.fn.rows.0 l.row) l.fn.slots.items l.slots.items
    × ((j : ℕ) → l.fn.rows.0 ≤ j → j < l.row → j < l.fn.rows.1)
