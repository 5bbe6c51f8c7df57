use Rattle.std.proofs.Common.{◌<◌}
use Rattle.std.proofs.lemmas.List.Elements.{All-contains}
use Rattle.leg_route_search.specs.Steps.SideSteps.{IsStepIn}
use Rattle.leg_route_search.specs.Steps.Dive.{IsStartIn, IsFarNode, AreFar}
use Rattle.leg_route_search.proofs.LastSteps.{end_open, all_far_now, least_far, shortest_from_back}
use Rattle.leg_route_search.proofs.dives.near_walk.Goals as goal

pub rounds-preserved : goal.rounds-preserved
rounds-preserved g c =
    let graph = g.G.Graph in
    let here = c.args.graph.now in
    let told = c.least_left-left-in-rounds in
    let Step = IsStepIn graph here in
    let Start = IsStartIn graph here in
    let of_ends : AreFar (graph.OpenNode here) Step Start c.args.ends.now told.new.known =
    all_far_now {Open = graph.OpenNode here} {Step = Step} {Start = Start} c.dive_from_ends.new.marks c.args.ends.now c.rounds.known told.new.known
    c.dive_from_ends.ensures.known.bounds c.rounds.invariant.of_ends told.ensures.now in
    record {
      known = c.dive_from_ends.ensures.known;
      far = least_far {Open = graph.OpenNode here} {Step = Step} {Start = Start} c.args.ends.now told.new.known told.result told.ensures.least of_ends;
      of_ends = of_ends;
    }

pub returns-in-Some-clause-known : goal.returns-in-Some-clause-known
returns-in-Some-clause-known g c =
    let graph = g.G.Graph in
    let here = c.args.graph.now in
    let told = c.least_left-left-in-rounds in
    let Step = IsStepIn graph here in
    let Start = IsStartIn graph here in
    all_far_now {Open = graph.OpenNode here} {Step = Step} {Start = Start} c.dive_from_ends.new.marks c.args.ends.now c.rounds.known told.new.known
    c.dive_from_ends.ensures.known.bounds c.rounds.invariant.of_ends told.ensures.now

pub dive_from_ends-requires-clause-within : goal.dive_from_ends-requires-clause-within
dive_from_ends-requires-clause-within g c a there =
    All-contains (λ a. a < g.G.Graph.size_of c.args.graph.now) c.args.ends.now a c.requires.ends (c.in_ok-near.ensures a (rw c.deref.ensures.value at there))

pub returns-in-Some-clause-found : goal.returns-in-Some-clause-found
returns-in-Some-clause-found g c =
    let graph = g.G.Graph in
    let here = c.args.graph.now in
    let far = IsFarNode (graph.OpenNode here) (IsStepIn graph here) (IsStartIn graph here)
    c.rounds.left in
    let found = rw (c.in-Some.is, c.deref.ensures.value) at c.in_ok-walk.ensures.found in
    shortest_from_back c.rounds.left found.0 c.in-Some.nodes.items (c.in_ok-near.ensures found.0 found.1)
    (λ b stop. All-contains far c.args.ends.now b c.rounds.invariant.far stop) found.2

pub returns-clause-found : goal.returns-clause-found
returns-clause-found g c none a b nodes start stop walk =
    All-contains (λ a. ¬ g.G.Graph.OpenNode c.args.graph.now a) c.args.ends.now b (c.is_one_open.ensures none) stop (end_open walk)
