use Rattle.std.proofs.Common.{◌+◌}
use Rattle.leg_rules.specs.Compare.Order.{section_number}
use Rattle.leg_compare.specs.Steps.Listing.{at, AreListedTo}
use Rattle.leg_compare.proofs.listing.push_added.Given as goal

abbrev pub invariant-loop-j : goal.invariant-loop-j
invariant-loop-j g l = AreListedTo l.first l.second (at (section_number l.section + 1) l.j 0) l.list.items
