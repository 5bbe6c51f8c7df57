use Rattle.std.proofs.Common.{◌≡◌, ℕ, ◌+◌, ◌-◌, ◌<◌, ◌≤◌, length, get_or, take, map, count_by, sum_by, refl, ap, ◌∙◌, arith}
use Rattle.std.proofs.lemmas.List.{length-map, length-take-le, take_more, take_all}
use Rattle.std.proofs.lemmas.List.Sums.{sum_by_push, sum_by-take-le}
use Rattle.std.proofs.lemmas.Nat.{mul-le}
use Rattle.leg_sweep.specs.Counts.{near_along_x, near_along_both, count_pairs}
use Rattle.leg_sweep.specs.Steps.Bands.{waiting_at, range_at, entries_at, near_in_band, near_both_in_band, met}
use Rattle.leg_sweep.specs.Steps.Sweep.{test_at}
use Rattle.leg_sweep.proofs.Tallies.{tests_in_looks, looks_in_bounds, tests_in_bounds}
use Rattle.leg_sweep.proofs.Counts.{count_pairs_push, count_pairs_square}
use Rattle.leg_sweep.proofs.FoundSoFar.{first_at, last_at, found_none, found_more, found_all, can_visit, met_near, met_near_both, met_few, reaches_after}
use Rattle.leg_sweep.proofs.MetItems.{waiting_none}
use Rattle.leg_sweep.proofs.InOrder.{in_order_is, all_have_ranges}
use Rattle.leg_sweep.proofs.Places.{length_order, looks_fit}
use Rattle.leg_sweep.proofs.sweep.sweep.Goals as goal

pub ranges_in_order-requires : goal.ranges_in_order-requires
ranges_in_order-requires g c =
    let rect_of = g.R.PairRule.rect_of (g.R.PairRule.fixed c.args.rule.now) in
    all_have_ranges (map rect_of c.args.items.now) c.args.ranges.now c.args.order.now c.requires.order
    (omega (arith, length-map c.args.items.now rect_of, c.requires.ranges.count))

pub visit-requires-clause-can : goal.visit-requires-clause-can
visit-requires-clause-can g c =
    let rule = g.R.PairRule in
    let fixed = rule.fixed c.args.rule.now in
    let so_far = c.loop-i.invariant in
    let is =
    in_order_is c.args.ranges.now c.args.order.now c.in_ok-in_order.in_order.items c.loop-i.i c.index.result.now c.in_ok-in_order.ensures
    (omega arith) c.index.ensures in
    rw (so_far.same, is)
    (can_visit (rule.Holds fixed) (g.met.R.PairRule.symmetric fixed)
    (rule.rect_of fixed) c.args.items.now c.args.ranges.now c.args.bands.now c.requires.ranges c.args.order.now c.requires.order
    c.loop-i.i (omega arith) c.loop-i.bands so_far.found.found so_far.found.swept so_far.reaches so_far.count)

pub visit-requires-clause-looks : goal.visit-requires-clause-looks
visit-requires-clause-looks g c =
    let rule = g.R.PairRule in
    let fixed = rule.fixed c.args.rule.now in
    let items = c.args.items.now in
    let rects = map (rule.rect_of fixed) items in
    let order = c.args.order.now in
    let ranges = c.args.ranges.now in
    let i : ℕ = c.loop-i.i in
    let x : ℕ = get_or order i 0 in
    let near = near_in_band rects ranges c.args.bands.now in
    let so_far = c.loop-i.invariant in
    let within : i < length order = omega arith in
    let few =
    met_few (rule.Holds fixed) (g.met.R.PairRule.symmetric fixed)
    (rule.rect_of fixed) items ranges c.args.bands.now c.requires.ranges order c.requires.order
    i within c.loop-i.bands so_far.found.found so_far.found.swept so_far.reaches so_far.count in
    let all = length_order rects order c.requires.order in
    let n : ℕ = length items in
    let short : i ≤ n = omega (arith, all, length-map items (rule.rect_of fixed)) in
    let half = count_pairs_square near (take i order) in
    let taken = length-take-le i order (omega arith) in
    let square = mul-le (length (take i order)) (length (take i order)) n n (omega (arith, taken, short)) (omega (arith, taken, short)) in
    let is = in_order_is ranges order c.in_ok-in_order.in_order.items i c.index.result.now c.in_ok-in_order.ensures within c.index.ensures in
    rw is
    (looks_fit n (rule.looks_of c.args.rule.now) (sum_by (entries_at ranges) order) (count_pairs near (take i order))
    (length (met c.loop-i.bands (first_at ranges x) (last_at ranges x - first_at ranges x))) (rule.looks_of c.loop-i.rule)
    c.requires.few c.requires.seen c.requires.entries (omega (arith, half, square)) (omega (arith, few, short))
    (omega (arith, so_far.looks, sum_by-take-le (entries_at ranges) order i)))

pub loop-i-init : goal.loop-i-init
loop-i-init g c =
    let rule = g.R.PairRule in
    let fixed = rule.fixed c.args.rule.now in
    let bands = c.args.bands.now in
    record {
      found =
          rw c.requires.untested
          (found_none g.S.PairSink.Takes (rule.Holds fixed) (g.met.R.PairRule.symmetric fixed)
          (rule.rect_of fixed) c.args.items.now c.args.ranges.now bands c.requires.ranges c.args.order.now c.requires.order
          c.args.sink.now c.requires.empty);
      reaches = λ k. refl;
      count = refl;
      looks = omega (arith, waiting_none bands c.requires.empty);
      tests = omega (arith, c.requires.untested);
      counts = omega (arith, c.requires.untested);
      same = refl;
      same_room = refl;
    }

pub loop-i-preserved : goal.loop-i-preserved
loop-i-preserved g c =
    let rule = g.R.PairRule in
    let fixed = rule.fixed c.args.rule.now in
    let items = c.args.items.now in
    let rect_of = rule.rect_of fixed in
    let rects = map rect_of items in
    let order = c.args.order.now in
    let ranges = c.args.ranges.now in
    let start = c.args.bands.now in
    let i : ℕ = c.loop-i.i in
    let n : ℕ = get_or order i 0 in
    let so_far = c.loop-i.invariant in
    let bands = c.loop-i.bands in
    let visit = c.in_ok-visit.ensures in
    let symmetric = g.met.R.PairRule.symmetric fixed in
    let holds = rule.Holds fixed in
    let near = near_in_band rects ranges start in
    let both = near_both_in_band rects ranges start in
    let within : i < length order = omega arith in
    let reach : ℕ = (waiting_at bands (first_at ranges n)).reach in
    let seen = met bands (first_at ranges n) (last_at ranges n - first_at ranges n) in
    let narrow = λ (x : ℕ). test_at (near_along_x reach) rects x n in
    let counts = λ (x : ℕ). test_at (near_along_both reach) rects x n in
    let is = in_order_is ranges order c.in_ok-in_order.in_order.items i c.index.result.now c.in_ok-in_order.ensures within c.index.ensures in
    let visited = rw (so_far.same, is) at visit.visited in
    let found = rw (so_far.same, is) at visit.found in
    let tests = rw (so_far.same, is) at visit.tests in
    let left = rw (so_far.same, is) at visit.left in
    let looks = rw is at visit.looks in
    let few_near =
    met_near holds symmetric rect_of items ranges start c.requires.ranges order c.requires.order i within bands so_far.found.found so_far.found.swept
    so_far.reaches so_far.count in
    let few_both =
    met_near_both holds symmetric rect_of items ranges start c.requires.ranges order c.requires.order i within bands so_far.found.found
    so_far.found.swept so_far.reaches so_far.count in
    let grown = take_more order i 0 within in
    let near_more : count_pairs near (take (i + 1) order) ≡ count_pairs near (take i order) + count_by (λ x. near x n) (take i order) =
    rw grown (count_pairs_push near (take i order) n) in
    let both_more : count_pairs both (take (i + 1) order) ≡ count_pairs both (take i order) + count_by (λ x. both x n) (take i order) =
    rw grown (count_pairs_push both (take i order) n) in
    let entries_more : sum_by (entries_at ranges) (take (i + 1) order) ≡ sum_by (entries_at ranges) (take i order) + entries_at ranges n =
    rw grown (sum_by_push (entries_at ranges) (take i order) n) in
    record {
      found =
          rw tests
          (found_more g.S.PairSink.Takes holds symmetric rect_of items ranges start c.requires.ranges order c.requires.order
          i (rule.tests_of c.loop-i.rule) (count_by counts seen) within bands c.visit.new.bands c.args.sink.now c.loop-i.sink c.visit.new.sink so_far.found
          so_far.reaches so_far.count visited found);
      reaches = λ k. reaches_after narrow (first_at ranges n) (last_at ranges n) n bands c.visit.new.bands visited k ∙ so_far.reaches k;
      count = visited.count ∙ so_far.count;
      looks = looks_in_bounds _ _ _ _ _ _ _ _ _ _ _ _ _ looks left so_far.looks few_near near_more entries_more;
      tests = tests_in_bounds _ _ _ _ _ _ tests so_far.tests few_both both_more;
      counts = tests_in_looks counts seen _ _ _ _ so_far.counts looks tests;
      same = c.visit.ensures.same ∙ so_far.same;
      same_room = c.visit.ensures.same_room ∙ so_far.same_room;
    }

pub returns-clause-pairs : goal.returns-clause-pairs
returns-clause-pairs g c =
    let rule = g.R.PairRule in
    let fixed = rule.fixed c.args.rule.now in
    let end : c.loop-i.i ≡ length c.args.order.now = omega arith in
    found_all g.S.PairSink.Takes (rule.Holds fixed) (g.met.R.PairRule.symmetric fixed)
    (rule.rect_of fixed) c.args.items.now c.args.ranges.now c.args.bands.now c.requires.ranges c.args.order.now c.requires.order
    c.loop-i.bands (rule.tests_of c.loop-i.rule) c.args.sink.now c.loop-i.sink (rw end at c.loop-i.invariant.found)

less_of : (a b n : ℕ) → a + b ≤ n → a ≤ n
less_of a b n le = omega arith

pub returns-clause-few_tests : goal.returns-clause-few_tests
returns-clause-few_tests g c =
    let past : length c.args.order.now ≤ c.loop-i.i = omega arith in
    let whole : take c.loop-i.i c.args.order.now ≡ c.args.order.now = take_all c.loop-i.i c.args.order.now past in
    rw whole at c.loop-i.invariant.tests

pub returns-clause-few_looks : goal.returns-clause-few_looks
returns-clause-few_looks g c =
    let past : length c.args.order.now ≤ c.loop-i.i = omega arith in
    let whole : take c.loop-i.i c.args.order.now ≡ c.args.order.now = take_all c.loop-i.i c.args.order.now past in
    less_of _ _ _ (rw whole at c.loop-i.invariant.looks)

pub returns-clause-looks : goal.returns-clause-looks
returns-clause-looks g c = c.loop-i.invariant.counts

pub returns-clause-same : goal.returns-clause-same
returns-clause-same g c = c.loop-i.invariant.same

pub returns-in_err-visit-clause-same : goal.returns-in_err-visit-clause-same
returns-in_err-visit-clause-same g c = c.visit.ensures.same ∙ c.loop-i.invariant.same

pub index-requires : goal.index-requires
index-requires g c =
    let long : length c.in_ok-in_order.in_order.items ≡ length c.args.order.now =
    ap length c.in_ok-in_order.ensures ∙ length-map c.args.order.now (range_at c.args.ranges.now) in
    omega (arith, long, c.in_ok-in_order.in_order.ok.0)
