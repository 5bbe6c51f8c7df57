use Rattle.std.proofs.Common.{◌≡◌, ℕ, ◌<◌, get_or}
use Rattle.leg_design_records.specs.declared.records.Wire.{Wire}
use Rattle.leg_rules.specs.Compare.Spelling.{spelled_wire}
use Rattle.leg_compare.proofs.spelling.go_on.Given as goal

abbrev pub invariant-loop-i : goal.invariant-loop-i
invariant-loop-i g l = (k : ℕ) (d : Wire) (e : Wire) → k < l.i → spelled_wire l.first (get_or l.a k d) ≡ spelled_wire l.second (get_or l.b k e)
