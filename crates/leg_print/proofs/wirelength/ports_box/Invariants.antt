use Rattle.std.proofs.Common.{take}
use Rattle.leg_design_records.specs.Records.{PortModel}
use Rattle.leg_rules.specs.Wirelength.{IsLeastBoxIfAny}
use Rattle.leg_print.specs.Steps.Wirelength.{IsOfSome, IsOfPort}
use Rattle.leg_print.proofs.wirelength.ports_box.Given as goal

abbrev pub invariant-loop-port : goal.invariant-loop-port
invariant-loop-port g l = IsLeastBoxIfAny (IsOfSome PortModel IsOfPort (take l.port-index l.ports)) l.bounds
