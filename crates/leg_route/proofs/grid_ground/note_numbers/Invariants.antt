-- The numbers so far stand behind the others.
use Rattle.std.proofs.Common.{◌≡◌, ◌≤◌, ◌++◌, ◌-◌}
use Rattle.std.specs.List.{range_with_len}
use Rattle.leg_route.proofs.grid_ground.note_numbers.Given as goal

abbrev pub invariant-loop-number : goal.invariant-loop-number
invariant-loop-number g l = record {
  begun : l.first ≤ l.number;
  within : l.number - l.first ≤ l.end - l.first;
  are : l.numbers ≡ l.fn.numbers ++ range_with_len l.first (l.number - l.first);
}
