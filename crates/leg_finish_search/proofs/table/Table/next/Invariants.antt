-- The states stay as many.
use Rattle.std.proofs.Common.{◌≡◌, length}
use Rattle.leg_finish_search.specs.Slots.{AreSlots}
use Rattle.leg_finish_search.proofs.table.Table.next.Given as goal

abbrev pub invariant-loop : goal.invariant-loop
invariant-loop g l = record {
  states : length l.self-inside.states.items ≡ l.fn.self;
  touched : AreSlots l.fn.self l.self-inside.touched.items;
  front : l.self-inside.front ≡ l.fn.self;
}
