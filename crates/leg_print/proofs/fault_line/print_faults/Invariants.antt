use Rattle.std.proofs.Common.{◌≡◌, option_map, take}
use Rattle.std.specs.List.{flat_map}
use Rattle.leg_output.specs.Lines.{violation_line}
use Rattle.leg_print.proofs.fault_line.print_faults.Given as goal

-- a line for each violation so far
abbrev pub invariant-loop-violation : goal.invariant-loop-violation
invariant-loop-violation g l =
    l.text.items ≡ flat_map (violation_line l.design (option_map (λ flat. flat.now) l.flat)) (take l.violation-index l.violations)
