use Rattle.std.proofs.Common.{ℕ, ◌∙◌, arith}
use Rattle.std.proofs.lemmas.List.{take_all}
use Rattle.leg_route_search.specs.Steps.SideSteps.{IsStepTo}
use Rattle.leg_route_search.proofs.Sides.{spread_more}
use Rattle.leg_route_search.proofs.level.follow.Goals as goal

pub loop-node-preserved : goal.loop-node-preserved
loop-node-preserved g c =
    let graph = g.G.Graph in
    let here = c.args.graph.now in
    let front = c.args.front.now in
    let i : ℕ = c.loop-node.node-index in record {
      count = c.in_ok-follow_one.ensures.count ∙ c.loop-node.invariant.count;
      spread = spread_more (graph.OpenNode here) (graph.bound_of here) c.args.level.limit c.args.level.number front i _ _ _ _ _ _ _ _ _
          (IsStepTo (graph.IsBeside here) (graph.OpenStep here) c.args.side) (omega arith) c.loop-node.invariant.spread c.in_ok-follow_one.ensures.spread;
    }

pub returns-clause-spread : goal.returns-clause-spread
returns-clause-spread g c = rw (take_all c.loop-node.node-index c.args.front.now (omega arith)) at c.loop-node.invariant.spread
