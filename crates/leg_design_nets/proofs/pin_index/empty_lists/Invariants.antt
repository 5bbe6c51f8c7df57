use Rattle.std.proofs.Common.{◌≡◌, length}
use Rattle.leg_design_nets.proofs.pin_index.empty_lists.Given as goal

abbrev pub invariant-loop : goal.invariant-loop
invariant-loop g l = length l.lists.items ≡ l.counter
