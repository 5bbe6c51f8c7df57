use Rattle.std.proofs.Common.{take}
use Rattle.leg_design_records.specs.declared.records.Terminal.{Terminal}
use Rattle.leg_rules.specs.Wirelength.{IsLeastBoxIfAny, IsTerminalCentre}
use Rattle.leg_print.specs.Steps.Wirelength.{IsOfSome}
use Rattle.leg_print.proofs.wirelength.centres_box.Given as goal

abbrev pub invariant-loop-terminal : goal.invariant-loop-terminal
invariant-loop-terminal g l = IsLeastBoxIfAny (IsOfSome Terminal (IsTerminalCentre l.design) (take l.terminal-index l.terminals)) l.bounds
