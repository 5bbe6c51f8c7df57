-- The slots so far that are kept.
use Rattle.std.proofs.Common.{length}
use Rattle.leg_finish_search.specs.Slots.{AreSlots}
use Rattle.leg_finish.proofs.to_join.open_ones.Given as goal

abbrev pub invariant-loop-number : goal.invariant-loop-number
invariant-loop-number g l = AreSlots (length l.slots) l.kept.items
