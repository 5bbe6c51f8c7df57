use Rattle.std.proofs.Common.{ℕ, ◌<◌, ◌≤◌, ◌+◌, ◌*◌, ◌^◌, length, map, sum_by, arith}
use Rattle.std.specs.List.{range_with_len}
use Rattle.std.proofs.lemmas.List.{length-map}
use Rattle.std.proofs.lemmas.List.Sorted.{sum_by-IsPermutation}
use Rattle.std.proofs.lemmas.Result.{on_ok_weaker}
use Rattle.leg_sweep.specs.Counts.{near_along_x, near_along_both, near_on_layer, near_on_layer_along_x, count_pairs}
use Rattle.leg_sweep.specs.Steps.Bands.{entries_at}
use Rattle.leg_sweep.proofs.NearItems.{both_near_along_x}
use Rattle.leg_sweep.proofs.Nearness.{near_along_x_symmetric, near_along_both_symmetric}
use Rattle.leg_sweep.proofs.OnLayers.{on_layers}
use Rattle.leg_sweep.proofs.banded.search.Goals as goal

pub sweep-requires-clause-ranges : goal.sweep-requires-clause-ranges
sweep-requires-clause-ranges g c = rw (c.are_crowded.ensures.same, c.deref-3.ensures.value, c.deref_mut.ensures.value) c.in_ok-ranges.ensures.ranges

pub sweep-requires-clause-entries : goal.sweep-requires-clause-entries
sweep-requires-clause-entries g c =
    let rect_of = g.R.PairRule.rect_of (g.R.PairRule.fixed c.args.rule.now) in
    let items = c.args.items.now in
    let order = c.in_ok-order.order.items in
    let ranges = c.in_ok-ranges.ranges.items in
    let moved =
    sum_by-IsPermutation (entries_at ranges) (range_with_len 0 (length items)) order (rw (length-map items rect_of) at c.in_ok-order.ensures.numbers) in
    let few : sum_by (entries_at ranges) order < 2 ^ 62 = omega (arith, moved, c.in_ok-ranges.ensures.entries, c.requires.few) in
    rw (c.deref-3.ensures.value, c.deref-2.ensures.value) few

pub returns-clause-few_tests : goal.returns-clause-few_tests
returns-clause-few_tests g c =
    let rule = g.R.PairRule in
    let layered = g.R.LayeredRule in
    let fixed = rule.fixed c.args.rule.now in
    let items = c.args.items.now in
    let rects = map (rule.rect_of fixed) items in
    let order = c.in_ok-order.order.items in
    let sorted = c.in_ok-order.ensures in
    let tests =
    rw (c.are_crowded.ensures.same, c.deref-3.ensures.value, c.deref_mut.ensures.value, c.deref-2.ensures.value) at c.in_ok-sweep.ensures.few_tests in
    let fewer =
    on_layers near_along_both (layered.layer_reach_of fixed) (rule.rect_of fixed) (layered.layer_of fixed) items (near_along_both_symmetric rects sorted.proper)
    c.in_ok-ranges.ranges.items c.in_ok-ranges.bands.items order sorted c.in_ok-ranges.ensures.layers in
    omega (arith, tests, fewer)

pub returns-clause-few_looks : goal.returns-clause-few_looks
returns-clause-few_looks g c =
    let rule = g.R.PairRule in
    let layered = g.R.LayeredRule in
    let fixed = rule.fixed c.args.rule.now in
    let items = c.args.items.now in
    let rects = map (rule.rect_of fixed) items in
    let order = c.in_ok-order.order.items in
    let sorted = c.in_ok-order.ensures in
    let ranges = c.in_ok-ranges.ranges.items in
    let looks =
    rw (c.are_crowded.ensures.same, c.deref-3.ensures.value, c.deref_mut.ensures.value, c.deref-2.ensures.value) at c.in_ok-sweep.ensures.few_looks in
    let moved =
    sum_by-IsPermutation (entries_at ranges) (range_with_len 0 (length items)) order (rw (length-map items (rule.rect_of fixed)) at sorted.numbers) in
    let fewer =
    on_layers near_along_x (layered.layer_reach_of fixed) (rule.rect_of fixed) (layered.layer_of fixed) items (near_along_x_symmetric rects sorted.proper)
    ranges c.in_ok-ranges.bands.items order sorted c.in_ok-ranges.ensures.layers in
    omega (arith, looks, c.are_crowded.ensures.looks, fewer, moved, c.in_ok-ranges.ensures.entries)

pub sweep-requires-clause-empty : goal.sweep-requires-clause-empty
sweep-requires-clause-empty g c = rw c.deref_mut.ensures.value c.in_ok-ranges.ensures.empty

pub sweep-requires-clause-order : goal.sweep-requires-clause-order
sweep-requires-clause-order g c = rw (c.are_crowded.ensures.same, c.deref-2.ensures.value) c.in_ok-order.ensures

pub returns-then-are_reaches_short-clause-few_looks : goal.returns-then-are_reaches_short-clause-few_looks
returns-then-are_reaches_short-clause-few_looks g c =
    let rule = g.R.PairRule in
    let layered = g.R.LayeredRule in
    let fixed = rule.fixed c.args.rule.now in
    let items = c.args.items.now in
    let looks : ℕ = rule.looks_of c.near_pairs.new.rule in
    let near = near_on_layer (rule.rect_of fixed) (layered.layer_of fixed) (layered.layer_reach_of fixed) in
    let along_x = near_on_layer_along_x (rule.rect_of fixed) (layered.layer_of fixed) (layered.layer_reach_of fixed) in
    let fewer = both_near_along_x (rule.rect_of fixed) (layered.layer_of fixed) (layered.layer_reach_of fixed) items in
    on_ok_weaker {P = looks ≤ 2 * length items + count_pairs near items} {Q = looks ≤ 4 * length items + count_pairs along_x items} c.near_pairs.result
    (λ few. omega (arith, few, fewer)) (rw c.are_crowded.ensures.same at c.near_pairs.ensures.few_looks)
