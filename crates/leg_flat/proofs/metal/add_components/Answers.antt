use Rattle.std.proofs.Common.{sym, zero-add}
use Rattle.leg_lemmas.proofs.Places.{read_at}
use Rattle.leg_flat.proofs.MoreMetal.{adds_at, adds_all}
use Rattle.leg_flat.proofs.MetalWalks.{one_component, components_walk}
use Rattle.leg_flat.proofs.metal.add_components.Goals as goal

pub loop-c-preserved : goal.loop-c-preserved
loop-c-preserved g c =
    let there =
    read_at _ c.args.design.now.components c.loop-c.c c.component-item.result c.components-component-items.ensures.is c.loop-c-test.true c.component-item.is in
    adds_at (one_component c.args.design.now) 0 c.args.design.now.components c.args.shapes.now.items c.loop-c.c c.loop-c.c c.component-item.result
    c.loop-c.shapes.items _ (sym (zero-add _)) there c.loop-c.invariant c.in_ok-add_component.ensures

pub returns : goal.returns
returns g c =
    let past = rw c.components-component-items.ensures.is at c.loop-c-test.false in
    adds_all (one_component c.args.design.now) 0 c.args.design.now.components c.args.shapes.now.items c.loop-c.c c.loop-c.shapes.items _ past
    (components_walk _ _ _) c.loop-c.invariant
