-- The first entries have as many wires as is told.
use Rattle.std.proofs.Common.{◌≡◌, take}
use Rattle.leg_design_records.specs.Steps.FirstWires.{with_first_wires}
use Rattle.leg_design_records.proofs.design_change.keep_first_wires.Given as goal

abbrev pub invariant-loop-n : goal.invariant-loop-n
invariant-loop-n g l = l.nets ≡ with_first_wires l.fn.nets (take l.n l.counts)
