-- Each number is its own root.
use Rattle.leg_wire.proofs.SetRoots.{forest_alone, roots_alone}
use Rattle.leg_wire.proofs.sets.Sets.new.Goals as goal

pub invariant_of-result : goal.invariant_of-result
invariant_of-result g c = rw c.in_ok-numbers_below.ensures (forest_alone c.args.count)

pub returns : goal.returns
returns g c = rw c.in_ok-numbers_below.ensures (roots_alone c.args.count)
