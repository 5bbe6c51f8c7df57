use Rattle.std.proofs.Common.{◌≡◌, ℕ, ◌<◌, ◌≤◌, ◌^◌, length, map, replicate, sum_by, arith}
use Rattle.std.proofs.lemmas.List.{length-map}
use Rattle.leg_sweep.specs.Steps.Bands.{entries_at}
use Rattle.leg_sweep.proofs.Apart.{pairs_from_sort}
use Rattle.leg_sweep.proofs.OneBand.{lowest, one_range, one_empty, one_entry, one_near, one_near_both}
use Rattle.leg_sweep.proofs.Places.{length_order, near_in_order, both_in_order}
use Rattle.leg_sweep.proofs.SinkPairs.{takes_listed}
use Rattle.leg_sweep.proofs.pair_list.pairs_counted.Goals as goal

pub sweep-requires-clause-ranges : goal.sweep-requires-clause-ranges
sweep-requires-clause-ranges g c =
    let rule = g.R.PairRule in
    let fixed = rule.fixed c.args.rule.now in
    rw (c.deref-2.ensures.value, c.in_ok-ranges.ensures, c.deref_mut.ensures.value, c.in_ok-bands.ensures, c.reach_of.ensures)
    (one_range (rule.Holds fixed) (rule.rect_of fixed) c.args.items.now (rule.reach_of fixed) (g.met.R.PairRule.near fixed))

pub sweep-requires-clause-empty : goal.sweep-requires-clause-empty
sweep-requires-clause-empty g c = rw (c.deref_mut.ensures.value, c.in_ok-bands.ensures) (one_empty c.reach_of.result)

pub sweep-requires-clause-entries : goal.sweep-requires-clause-entries
sweep-requires-clause-entries g c =
    let rect_of = g.R.PairRule.rect_of (g.R.PairRule.fixed c.args.rule.now) in
    let order = c.in_ok-order.order.items in
    let all = length_order (map rect_of c.args.items.now) order c.in_ok-order.ensures in
    let n : ℕ = length c.args.items.now in
    let few : sum_by (entries_at (replicate n lowest)) order < 2 ^ 62 =
    omega (arith, one_entry n order, all, length-map c.args.items.now rect_of, c.requires.few) in
    rw (c.deref-2.ensures.value, c.in_ok-ranges.ensures, c.deref.ensures.value) few

pub returns-clause-tests : goal.returns-clause-tests
returns-clause-tests g c =
    let took = c.in_ok-sweep.ensures.pairs in
    let listed : c.sweep.new.sink.items ≡ took.found =
    rw c.new-pairs.ensures.items at (takes_listed _ (λ v. v.items) (λ s t p h. h) _ took.found _ took.taken) in
    let enough : length c.sweep.new.sink.items ≤ g.R.PairRule.tests_of c.sweep.new.rule = rw listed took.enough in
    rw c.sort_pairs.ensures.count enough

pub returns-clause-few_tests : goal.returns-clause-few_tests
returns-clause-few_tests g c =
    let rule = g.R.PairRule in
    let fixed = rule.fixed c.args.rule.now in
    let rects = map (rule.rect_of fixed) c.args.items.now in
    let order = c.in_ok-order.order.items in
    let tests =
    rw (c.deref-2.ensures.value, c.in_ok-ranges.ensures, c.deref_mut.ensures.value, c.in_ok-bands.ensures, c.reach_of.ensures, c.deref.ensures.value) at
    c.in_ok-sweep.ensures.few_tests in
    omega (
      arith,
      tests,
      one_near_both rects (length c.args.items.now) (rule.reach_of fixed) order,
      both_in_order rects order c.in_ok-order.ensures (rule.reach_of fixed),
    )

pub returns-clause-few_looks : goal.returns-clause-few_looks
returns-clause-few_looks g c =
    let rule = g.R.PairRule in
    let fixed = rule.fixed c.args.rule.now in
    let rects = map (rule.rect_of fixed) c.args.items.now in
    let order = c.in_ok-order.order.items in
    let unseen = c.requires.unseen in
    let looks =
    rw (c.deref-2.ensures.value, c.in_ok-ranges.ensures, c.deref_mut.ensures.value, c.in_ok-bands.ensures, c.reach_of.ensures, c.deref.ensures.value) at
    c.in_ok-sweep.ensures.few_looks in
    omega (
      arith,
      looks,
      unseen,
      one_entry (length c.args.items.now) order,
      one_near rects (length c.args.items.now) (rule.reach_of fixed) order,
      near_in_order rects order c.in_ok-order.ensures (rule.reach_of fixed),
      length_order rects order c.in_ok-order.ensures,
      length-map c.args.items.now (rule.rect_of fixed),
    )

pub returns-clause-pairs : goal.returns-clause-pairs
returns-clause-pairs g c =
    let rule = g.R.PairRule in
    let fixed = rule.fixed c.args.rule.now in
    let items = c.args.items.now in
    let took = c.in_ok-sweep.ensures.pairs in
    let listed : c.sweep.new.sink.items ≡ took.found =
    rw c.new-pairs.ensures.items at (takes_listed _ (λ v. v.items) (λ s t p h. h) _ took.found _ took.taken) in
    pairs_from_sort (rule.Holds fixed) items c.sweep.new.sink.items c.sort_pairs.new.pairs.items (rw listed took.are)
    c.sort_pairs.ensures.moved c.sort_pairs.ensures.sorted
