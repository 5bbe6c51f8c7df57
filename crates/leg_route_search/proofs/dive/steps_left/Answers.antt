use Rattle.std.proofs.Common.{refl}
use Rattle.leg_route_search.proofs.LastSteps.{end_open, far_by_bound}
use Rattle.leg_route_search.proofs.dive.steps_left.Goals as goal

pub returns-in-Far : goal.returns-in-Far
returns-in-Far g c = c.requires.known.bounds.far c.args.node _ (record { is = rw c.in-Far.is at c.mark.ensures; seen = refl })

pub returns-in-Shut : goal.returns-in-Shut
returns-in-Shut g c from nodes start walk =
    absurd (c.requires.known.bounds.shut c.args.node (record { is = rw c.in-Shut.is at c.mark.ensures; seen = refl }) (end_open walk))

pub returns-in-Unseen : goal.returns-in-Unseen
returns-in-Unseen g c =
    let here = c.args.graph.now in
    far_by_bound (g.G.Graph.size_of here) (g.G.Graph.back_bound_of here) (λ a b step. g.met.G.Graph.one_further here step.0 a b step.1.0) _ c.args.most
    c.args.node c.back_bound.ensures
