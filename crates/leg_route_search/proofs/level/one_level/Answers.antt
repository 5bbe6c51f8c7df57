use Rattle.std.proofs.Common.{ℕ, Contains}
use Rattle.leg_rules.specs.declared.side.Side.{Side}
use Rattle.leg_rules.specs.declared.side.Side.TheVariants.{West, East, South, North, Below, Above}
use Rattle.leg_route_search.specs.Steps.SideSteps.{IsStepTo}
use Rattle.leg_route_search.proofs.Spread.{spread_then}
use Rattle.leg_route_search.proofs.Sides.{Some2, Some3, Some4, Some5, spread_sides}
use Rattle.leg_route_search.proofs.level.one_level.Goals as goal

pub returns-clause-spread : goal.returns-clause-spread
returns-clause-spread g c =
    let graph = g.G.Graph in
    let here = c.args.graph.now in
    let front = c.args.front.now in
    let Open = graph.OpenNode here in
    let bound = graph.bound_of here in
    let limit : ℕ = c.args.level.limit in
    let level : ℕ = c.args.level.number in
    let To = IsStepTo (graph.IsBeside here) (graph.OpenStep here) in
    let From = λ (side : Side) (a b : ℕ). Contains front a × To side a b in
    let two = spread_then Open bound limit level (From East) (From West) _ _ _ _ _ _ _ _ _ c.in_ok-follow.ensures.spread c.in_ok-follow-2.ensures.spread in
    let three = spread_then Open bound limit level (λ a b. Some2 (λ side. From side a b)) (From North) _ _ _ _ _ _ _ _ _ two c.in_ok-follow-3.ensures.spread in
    let four = spread_then Open bound limit level (λ a b. Some3 (λ side. From side a b)) (From South) _ _ _ _ _ _ _ _ _ three c.in_ok-follow-4.ensures.spread in
    let five = spread_then Open bound limit level (λ a b. Some4 (λ side. From side a b)) (From Above) _ _ _ _ _ _ _ _ _ four c.in_ok-follow-5.ensures.spread in
    let six = spread_then Open bound limit level (λ a b. Some5 (λ side. From side a b)) (From Below) _ _ _ _ _ _ _ _ _ five c.in_ok-follow-6.ensures.spread in
    spread_sides Open bound limit level front To _ _ _ _ _ _ six

pub follow-requires-clause-within : goal.follow-requires-clause-within
follow-requires-clause-within g c = c.requires.within

pub follow-requires-2-clause-within : goal.follow-requires-2-clause-within
follow-requires-2-clause-within g c = c.requires.within

pub follow-requires-3-clause-within : goal.follow-requires-3-clause-within
follow-requires-3-clause-within g c = c.requires.within

pub follow-requires-4-clause-within : goal.follow-requires-4-clause-within
follow-requires-4-clause-within g c = c.requires.within

pub follow-requires-5-clause-within : goal.follow-requires-5-clause-within
follow-requires-5-clause-within g c = c.requires.within

pub follow-requires-6-clause-within : goal.follow-requires-6-clause-within
follow-requires-6-clause-within g c = c.requires.within
