use Rattle.std.proofs.Common.{◌≡◌, ℕ, ◌<◌, get_or}
use Rattle.leg_design_records.specs.Names.{terminal_names}
use Rattle.leg_compare.proofs.spelling.are_in_one_order.Given as goal

abbrev pub invariant-loop-i : goal.invariant-loop-i
invariant-loop-i g l = (k : ℕ) (d e : _) → k < l.i → terminal_names l.first (get_or l.a k d) ≡ terminal_names l.second (get_or l.b k e)
