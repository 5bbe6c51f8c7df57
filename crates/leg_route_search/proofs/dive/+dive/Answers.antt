use Rattle.std.proofs.Common.{ℕ, ◌<◌, ◌≤◌, ◌∷◌, [], get_or, arith}
use Rattle.std.proofs.lemmas.List.Elements.{All-nil}
use Rattle.std.proofs.lemmas.List.{take_all}
use Rattle.std.proofs.lemmas.Result.{IfOk-from_err}
use Rattle.leg_rules.specs.declared.side.Side.{Side}
use Rattle.leg_rules.specs.declared.side.Side.TheVariants.{West, East, South, North, Below, Above}
use Rattle.leg_route_search.specs.Steps.Side.{opposite}
use Rattle.leg_rules.specs.Route.Walk.Walk.{here}
use Rattle.leg_route_search.specs.Steps.SideSteps.{IsStepIn}
use Rattle.leg_route_search.specs.Steps.Dive.{IsStartIn, IsFarFrom}
use Rattle.leg_route_search.proofs.LastSteps.{far_more, far_less, far_beyond, far_from_sides, back_push, true_far}
use Rattle.leg_route_search.proofs.dive.+dive.Goals as goal

at_least_one : (n : ℕ) → 0 < n → 1 ≤ n
at_least_one n some = omega arith

pub returns-then-is_start-clause-found : goal.returns-then-is_start-clause-found
returns-then-is_start-clause-found g t c =
    rw c.in_ok-from_slice.ensures.items (record {
      from = c.args.node;
      start = c.is_start.ensures.start c.if-is_start.true;
      walk = here c.requires.is_open;
      short = omega arith;
    })

pub loop-side-preserved-in_default : goal.loop-side-preserved-in_default
loop-side-preserved-in_default g t c =
    let graph = g.G.Graph in
    let at_graph = c.args.graph.now in
    let so_far = c.loop-side.invariant in record {
      known = c.in_ok-from.ensures.known;
      far = far_more (λ steps side. IsFarFrom (graph.IsBeside at_graph) (graph.OpenStep at_graph) (graph.OpenNode at_graph)
          (IsStartIn graph at_graph) steps c.args.node side)
          (λ steps fewer side. far_less (graph.IsBeside at_graph) (graph.OpenStep at_graph) (graph.OpenNode at_graph)
          (IsStartIn graph at_graph) steps fewer c.args.node side)
          _ c.loop-side.side-index _ _ (omega arith) c.in_ok-from.ensures.fewer so_far.far (rw c.in_default.is at c.in_ok-from.ensures.past);
    }

pub returns-in-Some-walk-clause-found : goal.returns-in-Some-walk-clause-found
returns-in-Some-walk-clause-found g t c =
    let graph = g.G.Graph in
    let here = c.args.graph.now in
    let side : Side = get_or (West ∷ East ∷ South ∷ North ∷ Below ∷ Above ∷ []) c.loop-side.side-index West in
    let back = rw c.in-Some-walk.is at c.in_ok-walk.ensures.found in
    let entered = rw c.in-Some.is at c.in_ok-from.ensures.entered in
    rw c.in_ok-push.ensures.items
    (back_push {Open = graph.OpenNode here} {Step = IsStepIn graph here}
    {Start = IsStartIn graph here}
    c.args.left c.in-Some.from c.args.node c.in-Some-walk.nodes.items entered.1 (opposite side, entered.2) c.requires.is_open back)

pub loop-side-preserved : goal.loop-side-preserved
loop-side-preserved g t c =
    let graph = g.G.Graph in
    let at_graph = c.args.graph.now in
    let so_far = c.loop-side.invariant in
    let side : Side = get_or (West ∷ East ∷ South ∷ North ∷ Below ∷ Above ∷ []) c.loop-side.side-index West in
    let only = rw c.in-Some.is at c.in_ok-from.ensures.only in record {
      known = c.in_ok-walk.ensures.known;
      far = far_more (λ steps side. IsFarFrom (graph.IsBeside at_graph) (graph.OpenStep at_graph) (graph.OpenNode at_graph)
          (IsStartIn graph at_graph) steps c.args.node side)
          (λ steps fewer side. far_less (graph.IsBeside at_graph) (graph.OpenStep at_graph) (graph.OpenNode at_graph)
          (IsStartIn graph at_graph) steps fewer c.args.node side)
          _ c.loop-side.side-index _ _ (omega arith) (omega (arith, c.min-steps.ensures, c.in_ok-from.ensures.fewer)) so_far.far
          (far_beyond (graph.IsBeside at_graph) (graph.OpenStep at_graph) (graph.OpenNode at_graph)
          (IsStartIn graph at_graph) _ c.steps_left.result c.args.node c.in-Some.from side
          (omega (arith, c.min-steps.ensures, c.one_more.ensures)) only c.steps_left.ensures);
    }

pub returns-clause-known : goal.returns-clause-known
returns-clause-known g t c =
    let graph = g.G.Graph in
    let at_graph = c.args.graph.now in
    let so_far = c.loop-side.invariant in
    let sides = West ∷ East ∷ South ∷ North ∷ Below ∷ Above ∷ [] in
    rw c.in_ok-set.ensures.set
    (true_far graph at_graph c.loop-side.marks c.args.node c.loop-side.steps c.requires.within c.requires.is_open
    (far_from_sides (graph.IsBeside at_graph) (graph.OpenStep at_graph) (graph.OpenNode at_graph)
    (IsStartIn graph at_graph) c.loop-side.steps c.args.node
    (rw (take_all c.loop-side.side-index sides (omega arith)) at so_far.far) (c.is_start.ensures.other c.if-is_start.false)) so_far.known)

pub returns-in-Some-walk-clause-known : goal.returns-in-Some-walk-clause-known
returns-in-Some-walk-clause-known g t c = c.in_ok-walk.ensures.known

pub returns-in_err-push-clause-known : goal.returns-in_err-push-clause-known
returns-in_err-push-clause-known g t c = c.in_ok-walk.ensures.known

pub returns-in_err-walk-clause-known : goal.returns-in_err-walk-clause-known
returns-in_err-walk-clause-known g t c = c.in_err-walk.ensures.known

pub returns-in_err-from-clause-known : goal.returns-in_err-from-clause-known
returns-in_err-from-clause-known g t c = c.in_err-from.ensures.known

pub returns-in_err-set-clause-known : goal.returns-in_err-set-clause-known
returns-in_err-set-clause-known g t c = rw c.in_err-set.ensures.same c.loop-side.invariant.known

pub steps_left-requires-clause-within : goal.steps_left-requires-clause-within
steps_left-requires-clause-within g t c = let entered = rw c.in-Some.is at c.in_ok-from.ensures.entered in entered.0

pub loop-side-init : goal.loop-side-init
loop-side-init g t c =
    let graph = g.G.Graph in
    let at_graph = c.args.graph.now in record {
      known = c.requires.known;
      far = All-nil (λ side. IsFarFrom (graph.IsBeside at_graph) (graph.OpenStep at_graph) (graph.OpenNode at_graph)
          (IsStartIn graph at_graph) _ c.args.node side);
    }

pub overflow_sub-left : goal.overflow_sub-left
overflow_sub-left g t c = let entered = rw c.in-Some.is at c.in_ok-from.ensures.entered in at_least_one c.args.left entered.1

pub returns-in_err-push-clause-found : goal.returns-in_err-push-clause-found
returns-in_err-push-clause-found g t c = IfOk-from_err _ _ c.from_residual-in_err-push.ensures.0

pub returns-in_err-walk-clause-found : goal.returns-in_err-walk-clause-found
returns-in_err-walk-clause-found g t c = IfOk-from_err _ _ c.from_residual-in_err-walk.ensures.0

pub returns-clause-found : goal.returns-clause-found
returns-clause-found g t c = tt
