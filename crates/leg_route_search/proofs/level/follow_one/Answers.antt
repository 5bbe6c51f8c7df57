use Rattle.std.proofs.Common.{◌≡◌, ℕ, refl, sym, arith}
use Rattle.std.proofs.lemmas.Option.{same_Some}
use Rattle.leg_route_search.specs.Steps.SideSteps.{IsStepTo}
use Rattle.leg_route_search.proofs.Spread.{spread_entered}
use Rattle.leg_route_search.proofs.level.follow_one.Goals as goal

pub returns-clause-spread : goal.returns-clause-spread
returns-clause-spread g c =
    let graph = g.G.Graph in
    let here = c.args.graph.now in
    let side = c.args.side in
    let to : ℕ = c.in-Some.to in
    let node : ℕ = c.args.node in
    let To = IsStepTo (graph.IsBeside here) (graph.OpenStep here) side in
    let near = c.is_too_far.ensures.near c.if-is_too_far.false in
    spread_entered (graph.OpenNode here) (graph.bound_of here) c.args.level.limit c.args.level.number (λ a b. (a ≡ node) × To a b) node to _ _ _ _ _ _
    (c.is_unseen.ensures.unseen c.if-not-is_unseen.false) (omega (arith, near))
    (refl, ((c.in-Some.ensures.is to).0 refl, c.is_open_step.ensures.0 c.if-not-is_open_step.false))
    (λ a b t. let beside : graph.IsBeside here side node b = rw t.0 at t.1.0 in sym (same_Some to b ((c.in-Some.ensures.is b).1 beside)))
    c.is_open_beyond-is_open.ensures c.in_ok-enter.ensures.entered
