-- So many empty lists.
use Rattle.std.proofs.Common.{◌≡◌, [], map, replicate}
use Rattle.leg_finish.proofs.layout.empty_lists.Given as goal

abbrev pub invariant-loop : goal.invariant-loop
invariant-loop g l = map (λ wires. wires.items) l.lists.items ≡ replicate l.counter []
