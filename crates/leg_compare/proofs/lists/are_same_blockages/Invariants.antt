use Rattle.std.proofs.Common.{◌≡◌, ℕ, ◌<◌, get_or}
use Rattle.leg_design_records.specs.Records.{blockage_said}
use Rattle.leg_compare.proofs.lists.are_same_blockages.Given as goal

abbrev pub invariant-loop-i : goal.invariant-loop-i
invariant-loop-i g l = (k : ℕ) (d e : _) → k < l.i → blockage_said (get_or l.a k d) ≡ blockage_said (get_or l.b k e)
