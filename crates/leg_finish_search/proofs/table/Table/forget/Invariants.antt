-- Slots are taken from the end of the list, and the states stay as many.
use Rattle.std.proofs.Common.{◌≡◌, length}
use Rattle.leg_finish_search.specs.Slots.{AreSlots}
use Rattle.leg_finish_search.proofs.table.Table.forget.Given as goal

abbrev pub invariant-loop-slot : goal.invariant-loop-slot
invariant-loop-slot g l = record {
  states : length l.self-inside.states.items ≡ l.fn.self;
  touched : AreSlots l.fn.self l.self-inside.touched.items;
  front : l.self-inside.front ≡ l.fn.self;
}

abbrev pub decreases-loop-slot : goal.decreases-loop-slot
decreases-loop-slot g l = length l.self-inside.touched.items
