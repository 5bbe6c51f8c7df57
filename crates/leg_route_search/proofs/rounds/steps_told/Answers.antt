use Rattle.std.proofs.Common.{arith}
use Rattle.leg_route_search.proofs.LastSteps.{far_each}
use Rattle.leg_route_search.proofs.rounds.steps_told.Goals as goal

pub returns : goal.returns
returns g c =
    let here = c.args.graph.now in
    let so_far = c.loop-end.invariant in
    let long = so_far.long in
    far_each (g.G.Graph.size_of here) (g.G.Graph.back_bound_of here) (λ a b step. g.met.G.Graph.one_further here step.0 a b step.1.0) c.args.ends.now
    c.loop-end.known.items (omega (arith, long))
    (λ k within. so_far.each k (omega (arith, within)))
