use Rattle.std.proofs.Common.{ℕ, take, Contains, refl, ◌∙◌, arith}
use Rattle.std.proofs.lemmas.List.{take_all}
use Rattle.leg_route_search.proofs.Spread.{spread_none}
use Rattle.leg_route_search.proofs.Sides.{spread_more_starts}
use Rattle.leg_route_search.proofs.LeastBounds.{looked_none, looked_more, looked_all}
use Rattle.leg_route_search.proofs.starts.seed.Goals as goal

pub loop-k-init : goal.loop-k-init
loop-k-init g c =
    let graph = g.G.Graph in
    let here = c.args.graph.now in
    let starts = c.args.starts.now in record {
      count = refl;
      looked = looked_none (graph.bound_of here) starts c.args.told c.args.limit c.args.least.now c.requires.least;
      spread = spread_none (graph.OpenNode here) (graph.bound_of here) c.args.limit 0 (λ (_ b : ℕ). Contains (take 0 starts) b) c.args.marks.now
          c.args.next.now.items c.args.left_out.now
          (λ a b there. absurd (omega (arith, there.1)));
    }

pub loop-k-preserved : goal.loop-k-preserved
loop-k-preserved g c =
    let graph = g.G.Graph in
    let here = c.args.graph.now in
    let starts = c.args.starts.now in
    let k = c.loop-k.k in
    let so_far = c.loop-k.invariant in record {
      count = c.in_ok-least.ensures.count ∙ so_far.count;
      looked = looked_more (graph.bound_of here) starts c.args.told c.args.limit k _ _ (omega arith) c.in_ok-least.ensures.least c.in_ok-least.ensures.told
          so_far.looked;
      spread = spread_more_starts (graph.OpenNode here) (graph.bound_of here) c.args.limit 0 starts k _ _ _ _ _ _ _ _ _
          (omega arith) so_far.spread c.in_ok-least.ensures.spread;
    }

pub returns-clause-spread : goal.returns-clause-spread
returns-clause-spread g c = rw (take_all c.loop-k.k c.args.starts.now (omega arith)) at c.loop-k.invariant.spread

pub returns-clause-least : goal.returns-clause-least
returns-clause-least g c =
    looked_all (g.G.Graph.bound_of c.args.graph.now) c.args.starts.now c.args.told c.args.limit c.loop-k.k _ (omega arith) c.loop-k.invariant.looked
