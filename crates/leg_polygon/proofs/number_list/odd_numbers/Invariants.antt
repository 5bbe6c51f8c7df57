use Rattle.std.proofs.Common.{◌≡◌, [], take, fold}
use Rattle.leg_polygon.specs.Slab.{toggle}
use Rattle.leg_polygon.proofs.number_list.odd_numbers.Given as goal

abbrev pub invariant-numbers : goal.invariant-numbers
invariant-numbers g l = l.odd.items ≡ fold toggle [] (take l.number-index l.number-items)
