-- The slots of the layers so far are told, of which none lies behind the end.
use Rattle.std.proofs.Common.{ℕ, ◌≤◌, ◌<◌}
use Rattle.leg_route_grid.specs.Steps.SlotRanges.{IsSlotAmong}
use Rattle.leg_route_access.specs.Steps.AccessUpdates.{AreAccessAfter, IsSlotOnLayer}
use Rattle.leg_route_access.proofs.added.add_shape.Given as goal

abbrev pub invariant-loop-k : goal.invariant-loop-k
invariant-loop-k g l =
    AreAccessAfter l.grid l.shape (IsSlotAmong (IsSlotOnLayer l.grid) l.first l.k) l.fn.slots l.slots × ((j : ℕ) → l.first ≤ j → j < l.k → j < l.end)
