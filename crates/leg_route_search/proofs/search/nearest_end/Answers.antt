use Rattle.std.proofs.Common.{◌≡◌, ◌<◌, length, get_or, Contains, inl, inr, refl, ◌∙◌, arith}
use Rattle.std.proofs.lemmas.Bool.{false≢true}
use Rattle.std.proofs.lemmas.Bool.Decides.{nat_tests}
use Rattle.std.proofs.lemmas.List.Elements.{All-contains, Contains-get_or}
use Rattle.std.proofs.lemmas.Option.{slice_get_within}
use Rattle.leg_route_search.specs.declared.mark.Mark.TheVariants.{Reached}
use Rattle.leg_route_search.specs.Steps.SideSteps.{IsStepIn}
use Rattle.leg_route_search.proofs.SearchSoFar.{underway_begun, underway_more, nearest_found, none_found}
use Rattle.leg_route_search.proofs.search.nearest_end.Goals as goal

pub levels-init : goal.levels-init
levels-init g c =
    let graph = g.G.Graph in
    let here = c.args.graph.now in
    let spread = rw (c.new-front.ensures.items, c.requires.not_left) at c.in_ok-seed.ensures.spread in record {
      count = c.in_ok-seed.ensures.count ∙ c.reset.ensures.count;
      least = c.in_ok-seed.ensures.least;
      underway = underway_begun (graph.OpenNode here) (IsStepIn graph here) (Contains c.args.starts.now)
          (Contains c.args.ends.now) (graph.bound_of here) c.args.limit
          _ _ _ _ c.reset.ensures.unseen spread;
      low = λ was. elim (spread.left_low was) [ inl earlier ↦ absurd (false≢true earlier) | inr low ↦ low ];
      same_limit = refl;
    }

pub returns-in-Some-clause-found : goal.returns-in-Some-clause-found
returns-in-Some-clause-found g c =
    let graph = g.G.Graph in
    let here = c.args.graph.now in
    let ends = c.args.ends.now in
    nearest_found (graph.OpenNode here) (IsStepIn graph here) (Contains c.args.starts.now) (Contains ends) (graph.bound_of here)
    c.args.limit
    (λ a b step. g.met.G.Graph.one_nearer here step.0 a b step.1.0) (λ b there. All-contains (λ a. graph.bound_of here a ≡ 0) ends b c.requires.at_end there)
    c.levels.level.number _ _ _ c.in-Some.end c.levels.invariant.underway c.in-Some.ensures.0 c.in-Some.ensures.1

pub one_level-requires-clause-within : goal.one_level-requires-clause-within
one_level-requires-clause-within g c =
    let front = c.levels.front.items in
    let value = c.deref.ensures.value in
    rw value (λ k d within.
    let reached = c.levels.invariant.underway.front_at (get_or front k d) (Contains-get_or front k d within) in
    omega (arith, slice_get_within c.levels.marks (get_or front k d) (Reached c.levels.level.number reached.0) reached.1.is, c.requires.count))

pub levels-preserved : goal.levels-preserved
levels-preserved g c =
    let graph = g.G.Graph in
    let here = c.args.graph.now in
    let ends = c.args.ends.now in
    let so_far = c.levels.invariant in
    let spread = rw (c.deref.ensures.value, c.new-next.ensures.items, so_far.same_limit) at c.in_ok-one_level.ensures.spread in
    let some : 0 < length c.levels.front.items = grind (arith, nat_tests, c.is_empty.ensures, c.levels-test.true, c.levels.front.ok.0) in record {
      count = c.in_ok-one_level.ensures.count ∙ so_far.count;
      least = so_far.least;
      underway = underway_more (graph.OpenNode here) (IsStepIn graph here) (Contains c.args.starts.now) (Contains ends)
          (graph.bound_of here) c.args.limit
          c.levels.level.number _ _ _ _ _ _ some (λ a is_end is. c.in_default.ensures a is_end is) so_far.underway spread;
      low = λ was. elim (spread.left_low was) [ inl earlier ↦ so_far.low earlier | inr low ↦ low ];
      same_limit = so_far.same_limit;
    }

pub returns-clause-found : goal.returns-clause-found
returns-clause-found g c =
    let graph = g.G.Graph in
    let here = c.args.graph.now in
    let empty : length c.levels.front.items ≡ 0 = grind (arith, nat_tests, c.is_empty.ensures, c.levels-test.false, c.levels.front.ok.0) in
    none_found (graph.OpenNode here) (IsStepIn graph here) (Contains c.args.starts.now) (Contains c.args.ends.now)
    (graph.bound_of here) c.args.limit
    c.levels.level.number _ _ _ c.levels.invariant.underway empty

pub returns-in-Some-clause-low : goal.returns-in-Some-clause-low
returns-in-Some-clause-low g c = c.levels.invariant.low

pub returns-clause-low : goal.returns-clause-low
returns-clause-low g c = c.levels.invariant.low
