-- There are as many parents as numbers.
use Rattle.std.proofs.Common.{◌<◌, length, arith}
use Rattle.leg_wire.specs.Steps.NumberSets.{roots_of}
use Rattle.leg_wire.proofs.SetRoots.{length-roots_of}
use Rattle.leg_wire.proofs.SetUnions.{root_known}
use Rattle.leg_wire.proofs.sets.Sets.least.Goals as goal

pub root-requires-clause-within : goal.root-requires-clause-within
root-requires-clause-within g c =
    let parents = c.self.inside.parents.items in
    let within : c.args.number < length (roots_of parents) = rw (← c.self.view_is) at c.requires in
    omega (arith, within, length-roots_of parents)

pub returns-clause-within : goal.returns-clause-within
returns-clause-within g c =
    let parents = c.self.inside.parents.items in
    let known = root_known parents c.self.invariant c.args.number c.root.result c.root.ensures.is in
    rw (← c.self.view_is) (omega (arith, known.0, length-roots_of parents))
