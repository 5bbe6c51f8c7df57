use Rattle.std.proofs.Common.{◌≡◌, ℕ, ◌+◌, ◌<◌, [], ◌∷◌, ◌++◌, length, take, sym, ap, ◌∙◌, arith}
use Rattle.std.proofs.lemmas.List.{take_more, get_or_read, take_all}
use Rattle.leg_sweep.specs.Steps.Grid.{no_span, span_at, span_with}
use Rattle.leg_sweep.proofs.GridSpans.{spans_more}
use Rattle.leg_sweep.proofs.grid.layer_spans.Goals as goal

pub loop-item-preserved : goal.loop-item-preserved
loop-item-preserved g c =
    let fixed = g.R.PairRule.fixed c.args.rule.now in
    let rect_of = g.R.PairRule.rect_of fixed in
    let layer_of = g.R.LayeredRule.layer_of fixed in
    let items = c.args.items.now in
    let spans = c.loop-item.spans.items in
    let i : ℕ = c.loop-item.item-index in
    let a = c.item-item.result in
    let so_far = c.loop-item.invariant in
    let within : i < length items = omega arith in
    let grown : take (i + 1) items ≡ take i items ++ a ∷ [] = take_more items i a within ∙ ap (λ b. take i items ++ b ∷ []) (sym c.item-item.is) in
    let layer : c.layer-layer.result ≡ layer_of a = c.layer-layer.ensures.is in
    let below : layer_of a < g.R.LayeredRule.layers_of fixed = rw (← layer) c.layer-layer.ensures.below in
    let in_spans : c.layer-layer.result < length spans = omega (arith, so_far.many, c.layer-layer.ensures.below) in
    let old : c.index.result.now ≡ span_at spans c.layer-layer.result =
    get_or_read spans c.layer-layer.result c.index.result.now in_spans c.index.ensures no_span in
    let new : c.with_item.result ≡ span_with (span_at spans (layer_of a)) (rect_of a) = rw (← layer, ← old) c.with_item.ensures.is in
    rw (grown, new, layer) (spans_more rect_of layer_of (g.R.LayeredRule.layers_of fixed) (take i items) spans a so_far c.with_item.ensures.proper below)

pub returns : goal.returns
returns g c = rw (take_all c.loop-item.item-index c.args.items.now c.loop-item-test.false) at c.loop-item.invariant
