use Rattle.std.proofs.Common.{refl}
use Rattle.std.proofs.lemmas.Result.{IfOk-from_err, err_from_is_err_and}
use Rattle.leg_lib_records.specs.Scale.{IsLayerAt, OneForOne}
use Rattle.leg_lib_records.proofs.Scaling.{pair_more, pair_all, pair_none, layers_named}
use Rattle.leg_lib_records.proofs.scale.layers_at.Goals as goal

pub loop-layer-init : goal.loop-layer-init
loop-layer-init g c = rw c.new-layers.ensures.items tt

pub returns-in_err-layer_at-clause-ok : goal.returns-in_err-layer_at-clause-ok
returns-in_err-layer_at-clause-ok g c = IfOk-from_err _ _ c.from_residual.ensures.0

pub returns-in_err-layer_at-clause-none : goal.returns-in_err-layer_at-clause-none
returns-in_err-layer_at-clause-none g c =
    let p = err_from_is_err_and c.from_residual.result c.from_residual.ensures.1 in
    rw (p.1, p.2, ← c.as_slice-layer-items.ensures.is)
    (λ not_memory. pair_none (IsLayerAt c.args.n) c.as_slice-layer-items.result.now c.loop-layer.layer-index c.layer-item.result c.loop-layer-test.true
    c.layer-item.is c.in_err-layer_at.ensures.none)

pub returns-in_err-layer_at-clause-nameless : goal.returns-in_err-layer_at-clause-nameless
returns-in_err-layer_at-clause-nameless g c =
    let p = err_from_is_err_and c.from_residual.result c.from_residual.ensures.1 in
    rw (p.1, p.2) c.in_err-layer_at.ensures.nameless

pub returns-in_err-push-clause-ok : goal.returns-in_err-push-clause-ok
returns-in_err-push-clause-ok g c = IfOk-from_err _ _ c.from_residual-in_err-push.ensures.0

pub returns-in_err-push-clause-none : goal.returns-in_err-push-clause-none
returns-in_err-push-clause-none g c =
    let p = err_from_is_err_and c.from_residual-in_err-push.result c.from_residual-in_err-push.ensures.1 in
    rw (p.1, p.2) (λ not_memory. absurd (not_memory refl))

pub returns-in_err-push-clause-nameless : goal.returns-in_err-push-clause-nameless
returns-in_err-push-clause-nameless g c =
    let p = err_from_is_err_and c.from_residual-in_err-push.result c.from_residual-in_err-push.ensures.1 in
    rw (p.1, p.2) (λ _. refl)

pub returns-in_err-with_items-clause-ok : goal.returns-in_err-with_items-clause-ok
returns-in_err-with_items-clause-ok g c = IfOk-from_err _ _ c.from_residual-in_err-with_items.ensures.0

pub returns-in_err-with_items-clause-none : goal.returns-in_err-with_items-clause-none
returns-in_err-with_items-clause-none g c =
    let p = err_from_is_err_and c.from_residual-in_err-with_items.result c.from_residual-in_err-with_items.ensures.1 in
    rw (p.1, p.2) (λ not_memory. absurd (not_memory refl))

pub returns-in_err-with_items-clause-nameless : goal.returns-in_err-with_items-clause-nameless
returns-in_err-with_items-clause-nameless g c =
    let p = err_from_is_err_and c.from_residual-in_err-with_items.result c.from_residual-in_err-with_items.ensures.1 in
    rw (p.1, p.2) (λ _. refl)

pub loop-layer-preserved : goal.loop-layer-preserved
loop-layer-preserved g c =
    rw c.in_ok-push.ensures.items (pair_more (IsLayerAt c.args.n) c.as_slice-layer-items.result.now c.loop-layer.layers.items c.loop-layer.layer-index
    c.layer-item.result c.in_ok-layer_at.field-0 c.loop-layer-test.true c.layer-item.is c.loop-layer.invariant c.in_ok-layer_at.ensures.ok)

pub with_items-requires-clause-named : goal.with_items-requires-clause-named
with_items-requires-clause-named g c =
    let all : OneForOne (IsLayerAt c.args.n) c.as_slice-layer-items.result.now c.loop-layer.layers.items =
    pair_all (IsLayerAt c.args.n) c.as_slice-layer-items.result.now c.loop-layer.layers.items c.loop-layer.layer-index c.loop-layer-test.false
    c.loop-layer.invariant in
    layers_named c.args.n c.args.raw.now c.loop-layer.layers.items (rw c.as_slice-layer-items.ensures.is at all)

pub with_items-requires-clause-few : goal.with_items-requires-clause-few
with_items-requires-clause-few g c = tt

pub returns-clause-ok : goal.returns-clause-ok
returns-clause-ok g c =
    let all : OneForOne (IsLayerAt c.args.n) c.as_slice-layer-items.result.now c.loop-layer.layers.items =
    pair_all (IsLayerAt c.args.n) c.as_slice-layer-items.result.now c.loop-layer.layers.items c.loop-layer.layer-index c.loop-layer-test.false
    c.loop-layer.invariant in
    rw c.in_ok-with_items.ensures (rw c.as_slice-layer-items.ensures.is at all)
