use Rattle.leg_route_search.specs.Steps.SideSteps.{IsStepIn}
use Rattle.leg_route_search.proofs.WayBack.{entered_from_linked, shortest_from_way}
use Rattle.leg_route_search.proofs.rounds.one_round.Goals as goal

pub way_to-requires-clause-entered : goal.way_to-requires-clause-entered
way_to-requires-clause-entered g c =
    let graph = g.G.Graph in
    let here = c.args.graph.now in
    let near = rw c.in-Some.is at c.in_ok-end.ensures.found in
    entered_from_linked {Open = graph.OpenNode here} {Step = IsStepIn graph here} _ near.linked

pub returns-clause-found : goal.returns-clause-found
returns-clause-found g c =
    let graph = g.G.Graph in
    let here = c.args.graph.now in
    let near = rw c.in-Some.is at c.in_ok-end.ensures.found in
    shortest_from_way {Open = graph.OpenNode here} {Step = IsStepIn graph here} _ c.in-Some.end _ near c.in_ok-nodes.ensures
