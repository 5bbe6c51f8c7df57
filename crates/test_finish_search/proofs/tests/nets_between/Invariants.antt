-- There are as many nets as pairs so far, and their slots are those of the sheet.
use Rattle.std.proofs.Common.{◌≡◌, All, length}
use Rattle.leg_finish_search.specs.Slots.{AreSlotLists}
use Rattle.test_finish_search.proofs.tests.nets_between.Given as goal

abbrev pub invariant-loop-from : goal.invariant-loop-from
invariant-loop-from g l = record {
  nets : All (λ net. AreSlotLists 18 net.groups.items) l.nets.items;
  count : length l.nets.items ≡ l.from-index;
}
