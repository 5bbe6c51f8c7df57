use Rattle.std.proofs.Common.{◌≡◌, take}
use Rattle.leg_design_records.specs.Records.{net_names}
use Rattle.leg_flat.proofs.net_index.names_of.Given as goal

abbrev pub invariant-loop-net : goal.invariant-loop-net
invariant-loop-net g l = l.names ≡ take l.net-index (net_names l.nets)
