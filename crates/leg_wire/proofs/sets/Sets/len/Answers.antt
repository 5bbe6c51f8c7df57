-- There are as many parents as numbers.
use Rattle.std.proofs.Common.{arith}
use Rattle.leg_wire.proofs.SetRoots.{length-roots_of}
use Rattle.leg_wire.proofs.sets.Sets.len.Goals as goal

pub returns : goal.returns
returns g c =
    let all = length-roots_of c.self.inside.parents.items in
    let is = c.len.ensures in
    rw (← c.self.view_is) (omega (arith, all, is))
