use Rattle.std.proofs.Common.{◌≡◌, ℕ, ◌<◌, [], get_or}
use Rattle.leg_rules.specs.Compare.Sections.{names_of}
use Rattle.leg_compare.proofs.order.are_in_one_order.Given as goal

abbrev pub invariant-loop-number : goal.invariant-loop-number
invariant-loop-number g l = (k : ℕ) → k < l.number → get_or (names_of l.section l.first) k [] ≡ get_or (names_of l.section l.second) k []
