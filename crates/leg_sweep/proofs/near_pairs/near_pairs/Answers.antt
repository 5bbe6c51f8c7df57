use Rattle.std.proofs.Common.{◌≡◌, ℕ, ◌+◌, ◌-◌, ◌≤◌, length, take, map, refl, ◌∙◌, arith}
use Rattle.std.proofs.lemmas.List.{length-map, length-take-le}
use Rattle.std.proofs.lemmas.Nat.{mul-le}
use Rattle.leg_geom.specs.Pairs.{IsPair}
use Rattle.leg_sweep.specs.Counts.{near_on_layer, count_pairs}
use Rattle.leg_sweep.proofs.Counts.{count_pairs_square}
use Rattle.leg_sweep.proofs.FewPairs.{found_below_none, found_below_more, found_below_all}
use Rattle.leg_sweep.proofs.NearItems.{left_of_last, all_cut}
use Rattle.leg_sweep.proofs.Places.{length_order, order_below, pairs_fit}
use Rattle.leg_sweep.proofs.near_pairs.near_pairs.Goals as goal

pub overflow_sub-rightmost : goal.overflow_sub-rightmost
overflow_sub-rightmost g c =
    let rule = g.R.PairRule in
    let fixed = rule.fixed c.args.rule.now in
    let items = c.args.items.now in
    let rects = map (rule.rect_of fixed) items in
    let order = c.args.order.now in
    let all = length_order rects order c.requires.order in
    omega (arith, all, length-map items (rule.rect_of fixed), c.requires.some)

pub bounds-order-order : goal.bounds-order-order
bounds-order-order g c =
    let rule = g.R.PairRule in
    let fixed = rule.fixed c.args.rule.now in
    let items = c.args.items.now in
    let rects = map (rule.rect_of fixed) items in
    let order = c.args.order.now in
    let all = length_order rects order c.requires.order in
    omega (arith, all, length-map items (rule.rect_of fixed), c.requires.some)

pub cut_rects-requires-clause-there : goal.cut_rects-requires-clause-there
cut_rects-requires-clause-there g c =
    let rule = g.R.PairRule in
    let fixed = rule.fixed c.args.rule.now in
    let items = c.args.items.now in
    let rects = map (rule.rect_of fixed) items in
    let order = c.args.order.now in
    let all = length_order rects order c.requires.order in
    let below = order_below rects order c.requires.order (length order - 1) (omega (arith, all, length-map items (rule.rect_of fixed), c.requires.some)) in
    omega (arith, below, length-map items (rule.rect_of fixed))

pub cut_rects-requires-clause-right : goal.cut_rects-requires-clause-right
cut_rects-requires-clause-right g c =
    let rule = g.R.PairRule in
    left_of_last (rule.rect_of (rule.fixed c.args.rule.now)) c.args.items.now c.args.order.now c.requires.order

pub loop-new-init : goal.loop-new-init
loop-new-init g c =
    let rule = g.R.PairRule in
    let none : rule.tests_of c.cut_rects.new.rule ≡ 0 = c.in_ok-rects.ensures.tests ∙ c.requires.untested in
    record {
      found = rw none (found_below_none g.S.PairSink.Takes (IsPair (rule.Holds (rule.fixed c.args.rule.now)) c.args.items.now) c.args.sink.now);
      tests = omega (arith, none);
      looks = omega arith;
      same = c.in_ok-rects.ensures.same;
      same_room = refl;
    }

pub meet_near-requires-clause-cut : goal.meet_near-requires-clause-cut
meet_near-requires-clause-cut g c =
    let rule = g.R.PairRule in
    rw (c.loop-new.invariant.same, c.deref-in-loop-new.ensures.value)
    (all_cut (rule.rect_of (rule.fixed c.args.rule.now)) c.args.items.now c.args.order.now c.requires.order c.in_ok-rects.rects.items c.in_ok-rects.ensures.cut)

pub meet_near-requires-clause-looks : goal.meet_near-requires-clause-looks
meet_near-requires-clause-looks g c =
    let rule = g.R.PairRule in
    let layered = g.R.LayeredRule in
    let fixed = rule.fixed c.args.rule.now in
    let items = c.args.items.now in
    let n : ℕ = length items in
    let i : ℕ = c.loop-new.new in
    let near = near_on_layer (rule.rect_of fixed) (layered.layer_of fixed) (layered.layer_reach_of fixed) in
    let half = count_pairs_square near (take i items) in
    let taken = length-take-le i items (omega arith) in
    let square = mul-le (length (take i items)) (length (take i items)) n n (omega (arith, taken)) (omega (arith, taken)) in
    pairs_fit n (count_pairs near (take i items)) (rule.looks_of c.loop-new.rule) (rule.looks_of c.cut_rects.new.rule) i c.requires.few
    (omega (arith, half, square))
    (omega (arith, c.in_ok-rects.ensures.looks, c.requires.seen)) c.loop-new.invariant.looks (omega arith)

pub loop-new-preserved : goal.loop-new-preserved
loop-new-preserved g c =
    let rule = g.R.PairRule in
    let layered = g.R.LayeredRule in
    let fixed = rule.fixed c.args.rule.now in
    let items = c.args.items.now in
    let n : ℕ = c.loop-new.new in
    let so_far = c.loop-new.invariant in
    let met = c.in_ok-meet_near.ensures in
    let was : ℕ = rule.tests_of c.loop-new.rule in
    let now : ℕ = rule.tests_of c.meet_near.new.rule in
    let found = rw so_far.same at met.found in
    let looks = rw so_far.same at met.looks in
    let grown : was + (now - was) ≤ now = omega (arith, met.tests) in
    record {
      found =
          found_below_more g.S.PairSink.Takes (IsPair (rule.Holds fixed) items) c.args.sink.now n was (now - was) now c.loop-new.sink c.meet_near.new.sink
          (λ p h. h.in_order) grown so_far.found found;
      tests = omega (arith, so_far.tests, met.more);
      looks = omega (arith, so_far.looks, looks);
      same = c.meet_near.ensures.same ∙ so_far.same;
      same_room = c.meet_near.ensures.same_room ∙ so_far.same_room;
    }

pub returns-clause-pairs : goal.returns-clause-pairs
returns-clause-pairs g c =
    let rule = g.R.PairRule in
    let end : c.loop-new.new ≡ length c.args.items.now = omega arith in
    found_below_all g.S.PairSink.Takes (rule.Holds (rule.fixed c.args.rule.now)) c.args.items.now
    (rule.tests_of c.loop-new.rule) c.args.sink.now c.loop-new.sink (rw end at c.loop-new.invariant.found)
