-- The nets so far have their lists.
use Rattle.std.proofs.Common.{◌≡◌, map, take}
use Rattle.leg_design_records.specs.Records.{NetModel}
use Rattle.test_memory_design.proofs.tests.two_nets.lists_of_wires.Given as goal

abbrev pub invariant-loop-net : goal.invariant-loop-net
invariant-loop-net g l = map (λ wires. wires.items) l.lists.items ≡ map (λ (net : NetModel). net.wires) (take l.net-index l.design.nets)
