-- An entry of no net, for places that no entry has.
use Rattle.std.proofs.Common.{[], None}
use Rattle.leg_design_records.specs.Records.{NetModel}

pub blank : NetModel
blank = record { name = []; usage = None; terminals = []; wires = [] }
