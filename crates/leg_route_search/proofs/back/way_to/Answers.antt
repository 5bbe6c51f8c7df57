use Rattle.std.proofs.Common.{◌≡◌, ℕ, ◌+◌, ◌-◌, [], ◌∷◌, ◌++◌, length, refl, ap, arith}
use Rattle.std.proofs.lemmas.List.{length_push, length-reverse}
use Rattle.leg_rules.specs.Route.Walk.Walk.{here}
use Rattle.leg_route_search.proofs.WayBack.{back_more}
use Rattle.leg_route_search.proofs.back.way_to.Goals as goal

pub steps-init : goal.steps-init
steps-init g c =
    let pushed : c.push.new.self.items ≡ c.args.node ∷ [] = rw c.new-nodes.ensures.items at c.in_ok-push.ensures.items in
    let none : c.level_of-level.result - 0 ≡ c.level_of-level.result = omega arith in record {
      first_at = rw none c.level_of-level.ensures;
      way = rw pushed (here c.requires.reached);
      count = rw pushed refl;
    }

pub entered_from-first-requires : goal.entered_from-first-requires
entered_from-first-requires g c = (c.level_of-level.result - c.steps.counter, c.steps.invariant.first_at)

pub steps-preserved : goal.steps-preserved
steps-preserved g c =
    let so_far = c.steps.invariant in
    let from : ℕ = c.entered_from-first.result in
    let pushed : c.push-in-steps.new.self.items ≡ c.steps.nodes.items ++ from ∷ [] = c.in_ok-push-2.ensures.items in
    let more = back_more c.args.marks.now c.requires.entered c.args.node c.steps.first from (c.level_of-level.result - c.steps.counter)
    c.entered_from-first.ensures.0 c.steps.nodes.items
    so_far.first_at (omega arith) c.entered_from-first.ensures.1 so_far.way in
    let next : c.level_of-level.result - (c.steps.counter + 1) ≡ c.level_of-level.result - c.steps.counter - 1 = omega arith in record {
      first_at = rw next more.0;
      way = rw pushed more.1;
      count = rw pushed (omega (arith, length_push c.steps.nodes.items from, so_far.count));
    }

pub returns : goal.returns
returns g c =
    let so_far = c.steps.invariant in
    let all : c.level_of-level.result - c.steps.counter ≡ 0 = omega arith in record {
      from = c.steps.first;
      level = c.level_of-level.result;
      begun = rw all at so_far.first_at;
      node_at = c.level_of-level.ensures;
      count = omega (arith, ap length c.reverse.ensures.items, length-reverse c.steps.nodes.items, so_far.count);
      way = rw c.reverse.ensures.items so_far.way;
    }
