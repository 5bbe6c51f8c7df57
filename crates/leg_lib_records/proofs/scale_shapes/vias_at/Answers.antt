use Rattle.std.proofs.Common.{refl}
use Rattle.std.proofs.lemmas.Result.{IfOk-from_err, err_from_is_err_and}
use Rattle.leg_lib_records.specs.Scale.{IsViaAt, OneForOne}
use Rattle.leg_lib_records.proofs.Scaling.{pair_more, pair_all, pair_none, vias_named}
use Rattle.leg_lib_records.proofs.scale_shapes.vias_at.Goals as goal

pub loop-via-init : goal.loop-via-init
loop-via-init g c = rw c.new-vias.ensures.items tt

pub returns-in_err-via_at-clause-ok : goal.returns-in_err-via_at-clause-ok
returns-in_err-via_at-clause-ok g c = IfOk-from_err _ _ c.from_residual.ensures.0

pub returns-in_err-via_at-clause-none : goal.returns-in_err-via_at-clause-none
returns-in_err-via_at-clause-none g c =
    let p = err_from_is_err_and c.from_residual.result c.from_residual.ensures.1 in
    rw (p.1, p.2, ← c.as_slice-via-items.ensures.is)
    (λ not_memory. pair_none (IsViaAt c.args.n) c.as_slice-via-items.result.now c.loop-via.via-index c.via-item.result c.loop-via-test.true c.via-item.is
    (c.in_err-via_at.ensures.none not_memory))

pub returns-in_err-via_at-clause-nameless : goal.returns-in_err-via_at-clause-nameless
returns-in_err-via_at-clause-nameless g c =
    let p = err_from_is_err_and c.from_residual.result c.from_residual.ensures.1 in
    rw (p.1, p.2) c.in_err-via_at.ensures.nameless

pub returns-in_err-push-clause-ok : goal.returns-in_err-push-clause-ok
returns-in_err-push-clause-ok g c = IfOk-from_err _ _ c.from_residual-in_err-push.ensures.0

pub returns-in_err-push-clause-none : goal.returns-in_err-push-clause-none
returns-in_err-push-clause-none g c =
    let p = err_from_is_err_and c.from_residual-in_err-push.result c.from_residual-in_err-push.ensures.1 in
    rw (p.1, p.2) (λ not_memory. absurd (not_memory refl))

pub returns-in_err-push-clause-nameless : goal.returns-in_err-push-clause-nameless
returns-in_err-push-clause-nameless g c =
    let p = err_from_is_err_and c.from_residual-in_err-push.result c.from_residual-in_err-push.ensures.1 in
    rw (p.1, p.2) (λ _. refl)

pub returns-in_err-with_items-clause-ok : goal.returns-in_err-with_items-clause-ok
returns-in_err-with_items-clause-ok g c = IfOk-from_err _ _ c.from_residual-in_err-with_items.ensures.0

pub returns-in_err-with_items-clause-none : goal.returns-in_err-with_items-clause-none
returns-in_err-with_items-clause-none g c =
    let p = err_from_is_err_and c.from_residual-in_err-with_items.result c.from_residual-in_err-with_items.ensures.1 in
    rw (p.1, p.2) (λ not_memory. absurd (not_memory refl))

pub returns-in_err-with_items-clause-nameless : goal.returns-in_err-with_items-clause-nameless
returns-in_err-with_items-clause-nameless g c =
    let p = err_from_is_err_and c.from_residual-in_err-with_items.result c.from_residual-in_err-with_items.ensures.1 in
    rw (p.1, p.2) (λ _. refl)

pub loop-via-preserved : goal.loop-via-preserved
loop-via-preserved g c =
    rw c.in_ok-push.ensures.items (pair_more (IsViaAt c.args.n) c.as_slice-via-items.result.now c.loop-via.vias.items c.loop-via.via-index c.via-item.result
    c.in_ok-via_at.field-0 c.loop-via-test.true c.via-item.is c.loop-via.invariant c.in_ok-via_at.ensures.ok)

pub with_items-requires-clause-named : goal.with_items-requires-clause-named
with_items-requires-clause-named g c =
    let all : OneForOne (IsViaAt c.args.n) c.as_slice-via-items.result.now c.loop-via.vias.items =
    pair_all (IsViaAt c.args.n) c.as_slice-via-items.result.now c.loop-via.vias.items c.loop-via.via-index c.loop-via-test.false c.loop-via.invariant in
    vias_named c.args.n c.args.raw.now c.loop-via.vias.items (rw c.as_slice-via-items.ensures.is at all)

pub with_items-requires-clause-few : goal.with_items-requires-clause-few
with_items-requires-clause-few g c = tt

pub returns-clause-ok : goal.returns-clause-ok
returns-clause-ok g c =
    let all : OneForOne (IsViaAt c.args.n) c.as_slice-via-items.result.now c.loop-via.vias.items =
    pair_all (IsViaAt c.args.n) c.as_slice-via-items.result.now c.loop-via.vias.items c.loop-via.via-index c.loop-via-test.false c.loop-via.invariant in
    rw c.in_ok-with_items.ensures (rw c.as_slice-via-items.ensures.is at all)
