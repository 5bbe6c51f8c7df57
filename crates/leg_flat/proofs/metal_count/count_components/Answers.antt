use Rattle.std.proofs.Common.{length, refl, sym, zero-add}
use Rattle.leg_lemmas.proofs.Places.{read_at}
use Rattle.leg_flat.proofs.MetalWalks.{one_component, components_walk}
use Rattle.leg_flat.proofs.Counts.{counts_at, counts_all}
use Rattle.leg_flat.proofs.metal_count.count_components.Goals as goal

pub loop-component-preserved : goal.loop-component-preserved
loop-component-preserved g c =
    let there =
    read_at _ c.args.design.now.components c.loop-component.component-index c.component-item.result c.components-component-items.ensures.is
    c.loop-component-test.true c.component-item.is in
    counts_at (one_component c.args.design.now) 0 c.args.design.now.components c.counted-count.result c.loop-component.component-index
    c.loop-component.component-index c.component-item.result c.loop-component.count c.count_component-count.result
    (length (one_component c.args.design.now c.loop-component.component-index c.component-item.result)) (sym (zero-add _)) there c.loop-component.invariant
    (c.count_component-count.ensures c.loop-component.component-index) refl

pub returns : goal.returns
returns g c =
    let past = rw c.components-component-items.ensures.is at c.loop-component-test.false in
    counts_all (one_component c.args.design.now) 0 c.args.design.now.components c.counted-count.result c.loop-component.component-index c.args.before
    c.loop-component.count _ past c.counted-count.ensures (components_walk _ _ _) c.loop-component.invariant
