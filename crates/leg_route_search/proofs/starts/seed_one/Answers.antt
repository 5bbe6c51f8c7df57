use Rattle.std.proofs.Common.{◌≡◌, ℕ, refl, arith}
use Rattle.leg_route_search.proofs.Spread.{spread_entered}
use Rattle.leg_route_search.proofs.starts.seed_one.Goals as goal

pub returns-clause-spread : goal.returns-clause-spread
returns-clause-spread g c =
    let graph = g.G.Graph in
    let here = c.args.graph.now in
    let start : ℕ = c.args.start in
    spread_entered (graph.OpenNode here) (graph.bound_of here) c.args.limit 0 (λ (_ b : ℕ). b ≡ start) start start _ _ _ _ _ _
    (c.is_unseen.ensures.unseen c.if-not-is_unseen.false) (omega arith) refl (λ a b t. t) c.is_open_node-is_open.ensures
    c.in_ok-enter.ensures.entered
