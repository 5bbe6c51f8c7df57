use Rattle.leg_rules.specs.Compare.Order.{section_number}
use Rattle.leg_compare.specs.Steps.Listing.{at, AreListedTo}
use Rattle.leg_compare.proofs.listing.push_entries.Given as goal

abbrev pub invariant-loop-i : goal.invariant-loop-i
invariant-loop-i g l = AreListedTo l.first l.second (at (section_number l.section) l.i 0) l.list.items
