use Rattle.std.proofs.Common.{ℕ, ◌<◌, length, arith}
use Rattle.std.proofs.lemmas.List.{get_or_default}
use Rattle.std.proofs.lemmas.List.Sums.{sum_by_push, sum_by_more_le}
use Rattle.leg_sweep.specs.declared.grid.LayerSpan.{LayerSpan}
use Rattle.leg_sweep.specs.declared.grid.LayerBands.{LayerBands}
use Rattle.leg_sweep.specs.Steps.Grid.{no_span}
use Rattle.leg_sweep.proofs.GridBands.{grid_more}
use Rattle.leg_sweep.proofs.grid.layer_bands.Goals as goal

pub overflow_add-first : goal.overflow_add-first
overflow_add-first g c =
    let so_far = c.loop-layer.invariant in
    let room =
    sum_by_more_le (λ (span : LayerSpan). span.count) c.args.spans.now c.loop-layer.layer (record { count = 0; total = 0; lowest = 0; highest = 0 })
    (omega arith) in
    omega (arith, room, so_far.next, so_far.so_far.few, c.bands_of-bands.ensures.few, c.requires.few)

pub loop-layer-preserved : goal.loop-layer-preserved
loop-layer-preserved g c =
    let spans = c.args.spans.now in
    let layer : ℕ = c.loop-layer.layer in
    let grid = c.loop-layer.grid.items in
    let bands : LayerBands = c.bands_of-bands.result in
    let so_far = c.loop-layer.invariant in
    let reach_of = g.R.LayeredRule.layer_reach_of (g.R.PairRule.fixed c.args.rule.now) in
    let within : layer < length spans = omega arith in
    let read = get_or_default spans layer (record { count = 0; total = 0; lowest = 0; highest = 0 }) no_span within in
    let are = rw (read, so_far.next, c.layer_reach.ensures) at c.bands_of-bands.ensures in
    record {
      so_far = rw c.in_ok-push.ensures.items (grid_more reach_of spans layer grid bands so_far.so_far within are);
      next = rw c.in_ok-push.ensures.items (omega (arith, sum_by_push (λ (b : LayerBands). b.count) grid bands, so_far.next));
    }
