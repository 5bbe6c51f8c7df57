use Rattle.std.proofs.Common.{◌≡◌, take}
use Rattle.leg_rules.specs.Compare.Sections.{names_of}
use Rattle.leg_compare.proofs.section.names_of.Given as goal

abbrev pub invariant-loop-number : goal.invariant-loop-number
invariant-loop-number g l = l.names ≡ take l.number (names_of l.section l.design)
