-- The entries so far have their counts.
use Rattle.std.proofs.Common.{◌≡◌, length, take, map}
use Rattle.leg_design_records.specs.Records.{NetModel}
use Rattle.leg_design_records.proofs.design_change.counts_of_wires.Given as goal

abbrev pub invariant-loop-net : goal.invariant-loop-net
invariant-loop-net g l = l.counts.items ≡ map (λ (net : NetModel). length net.wires) (take l.net-index l.nets)
