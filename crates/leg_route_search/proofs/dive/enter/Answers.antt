use Rattle.std.proofs.Common.{ℕ, ◌<◌, ◌∙◌, refl, subst, sym, arith}
use Rattle.std.proofs.lemmas.Bool.{false≢true}
use Rattle.leg_rules.specs.declared.side.Side.{Side}
use Rattle.leg_route_search.specs.Steps.Side.{opposite}
use Rattle.leg_route_search.proofs.LastSteps.{end_open, only_beyond}
use Rattle.leg_route_search.proofs.dive.enter.Goals as goal

some_left : (least left : ℕ) → least < left → 0 < left
some_left least left less = omega arith

pub is_open_step-requires-clause-beside : goal.is_open_step-requires-clause-beside
is_open_step-requires-clause-beside g c =
    let graph = g.G.Graph in
    let here = c.args.graph.now in
    let node : ℕ = c.args.node in
    let from : ℕ = c.in-Some.from in (
      node,
      subst (λ (s : Side). graph.IsBeside here s from node) (sym c.opposite.ensures)
          (g.met.G.Graph.both_ways here c.args.side node from ((c.in-Some.ensures.is from).0 refl)),
    )

pub returns-then-not-branch-clause-past : goal.returns-then-not-branch-clause-past
returns-then-not-branch-clause-past g c last first nodes step start walk =
    let here = c.args.graph.now in
    let same = only_beyond (g.G.Graph.IsBeside here) (g.met.G.Graph.both_ways here) c.args.side c.args.node c.in-Some.from c.in-Some.ensures.is last step.0 in
    let there : g.G.Graph.OpenNode here last = end_open walk in
    absurd (false≢true (sym c.if-not-branch.true ∙ c.in_ok-is_open.ensures.is.1 (rw same at there)))

pub returns-clause-only : goal.returns-clause-only
returns-clause-only g c last beside =
    let here = c.args.graph.now in
    only_beyond (g.G.Graph.IsBeside here) (g.met.G.Graph.both_ways here) c.args.side c.args.node c.in-Some.from c.in-Some.ensures.is last beside

pub returns-clause-known : goal.returns-clause-known
returns-clause-known g c = c.in_ok-is_open.ensures.known

pub returns-then-not-branch-clause-known : goal.returns-then-not-branch-clause-known
returns-then-not-branch-clause-known g c = c.in_ok-is_open.ensures.known

pub returns-in_err-is_open-clause-known : goal.returns-in_err-is_open-clause-known
returns-in_err-is_open-clause-known g c = c.in_err-is_open.ensures.known

pub returns-clause-is_open : goal.returns-clause-is_open
returns-clause-is_open g c = c.in_ok-is_open.ensures.is.0 c.if-not-branch.false

pub returns-then-not-is_open_step-clause-past : goal.returns-then-not-is_open_step-clause-past
returns-then-not-is_open_step-clause-past g c last first nodes step start walk =
    let here = c.args.graph.now in
    let same = only_beyond (g.G.Graph.IsBeside here) (g.met.G.Graph.both_ways here) c.args.side c.args.node c.in-Some.from c.in-Some.ensures.is last step.0 in
    let beyond : g.G.Graph.OpenStep here (opposite c.args.side) c.in-Some.from = rw same at step.1 in
    let asked : g.G.Graph.OpenStep here c.opposite.result c.in-Some.from = rw c.opposite.ensures beyond in
    absurd (false≢true (sym c.if-not-is_open_step.true ∙ c.is_open_step.ensures.1 asked))

pub returns-clause-entered : goal.returns-clause-entered
returns-clause-entered g c =
    let here = c.args.graph.now in
    let beside = g.met.G.Graph.both_ways here c.args.side c.args.node c.in-Some.from ((c.in-Some.ensures.is c.in-Some.from).0 refl) in
    let way = rw c.opposite.ensures at c.is_open_step.ensures.0 c.if-not-is_open_step.false in
    (c.in-Some.ensures.within, some_left c.steps_left-least.result c.args.left c.if-least-left.false, (beside, way))
