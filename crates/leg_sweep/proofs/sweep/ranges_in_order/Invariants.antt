-- The ranges of the items so far.
use Rattle.std.proofs.Common.{◌≡◌, map, take}
use Rattle.leg_sweep.specs.Steps.Bands.{range_at}
use Rattle.leg_sweep.proofs.sweep.ranges_in_order.Given as goal

abbrev pub invariant-loop-number : goal.invariant-loop-number
invariant-loop-number g l = l.in_order.items ≡ map (range_at l.ranges) (take l.number-index l.order)
