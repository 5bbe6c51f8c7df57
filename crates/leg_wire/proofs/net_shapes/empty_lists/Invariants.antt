-- The lists so far.
use Rattle.std.proofs.Common.{◌≡◌, [], replicate}
use Rattle.leg_wire.proofs.net_shapes.empty_lists.Given as goal

abbrev pub invariant-loop : goal.invariant-loop
invariant-loop g l = l.lists.items ≡ replicate l.counter []
