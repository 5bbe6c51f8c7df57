-- The higher of the two roots gets the lower one as its parent.
use Rattle.std.proofs.Common.{◌≡◌, ◌<◌, ◌∙◌, length, Some, slice_get, rules}
use Rattle.leg_wire.specs.Steps.NumberSets.{roots_of}
use Rattle.leg_wire.proofs.SetUnions.{united, united_merged, root_bound}
use Rattle.leg_wire.proofs.sets.Sets.unite.Goals as goal

pub index_mut-requires : goal.index_mut-requires
index_mut-requires g c =
    let parents = c.self.inside.parents.items in
    let of_a : slice_get (roots_of parents) c.args.a ≡ Some c.least-first.result =
    rw (c.self.view_is, c.least-second.ensures.same, c.least-first.ensures.same) c.least-first.ensures.is in
    let of_b : slice_get (roots_of parents) c.args.b ≡ Some c.least-second.result =
    rw (c.self.view_is, c.least-second.ensures.same) c.least-second.ensures.is in
    let bound : c.max.result < length parents =
    rw c.max.ensures (root_bound parents c.self.invariant c.args.a c.args.b c.least-first.result c.least-second.result of_a of_b) in
    search rules

pub returns-clause-united : goal.returns-clause-united
returns-clause-united g c =
    let parents = c.self.inside.parents.items in
    let same : roots_of parents ≡ c.args.self.now = c.self.view_is ∙ c.least-second.ensures.same ∙ c.least-first.ensures.same in
    let of_a : slice_get (roots_of parents) c.args.a ≡ Some c.least-first.result = rw same c.least-first.ensures.is in
    let of_b : slice_get (roots_of parents) c.args.b ≡ Some c.least-second.result =
    rw (c.self.view_is, c.least-second.ensures.same) c.least-second.ensures.is in
    rw (← same, c.max.ensures, c.min.ensures) (united parents c.self.invariant c.args.a c.args.b c.least-first.result c.least-second.result of_a of_b).1

pub returns-clause-merged : goal.returns-clause-merged
returns-clause-merged g c one other is_one is_other =
    let parents = c.self.inside.parents.items in
    let same : roots_of parents ≡ c.args.self.now = c.self.view_is ∙ c.least-second.ensures.same ∙ c.least-first.ensures.same in
    let of_a : slice_get (roots_of parents) c.args.a ≡ Some c.least-first.result = rw same c.least-first.ensures.is in
    let of_b : slice_get (roots_of parents) c.args.b ≡ Some c.least-second.result =
    rw (c.self.view_is, c.least-second.ensures.same) c.least-second.ensures.is in
    rw (← same, c.max.ensures, c.min.ensures)
    (united_merged parents c.self.invariant c.args.a c.args.b c.least-first.result c.least-second.result one other of_a of_b (rw same is_one)
    (rw same is_other))
