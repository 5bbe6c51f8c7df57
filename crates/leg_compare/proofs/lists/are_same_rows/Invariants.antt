use Rattle.std.proofs.Common.{◌≡◌, ℕ, ◌<◌, get_or}
use Rattle.leg_design_records.specs.declared.records.Row.{Row}
use Rattle.leg_compare.proofs.lists.are_same_rows.Given as goal

abbrev pub invariant-loop-i : goal.invariant-loop-i
invariant-loop-i l = (k : ℕ) (d e : Row) → k < l.i → get_or l.a k d ≡ get_or l.b k e
