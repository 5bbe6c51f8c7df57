use Rattle.std.proofs.Common.{◌≡◌, ℕ, ◌<◌, get_or}
use Rattle.leg_design_records.specs.Records.{PortModel}
use Rattle.leg_compare.proofs.lists.are_same_ports.Given as goal

abbrev pub invariant-loop-i : goal.invariant-loop-i
invariant-loop-i g l = (k : ℕ) (d e : PortModel) → k < l.i → get_or l.a k d ≡ get_or l.b k e
