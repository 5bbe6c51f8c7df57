use Rattle.std.proofs.Common.{refl}
use Rattle.std.proofs.lemmas.Result.{IfOk-from_err, err_from_is_err_and}
use Rattle.leg_lib_records.specs.Scale.{IsMasterAt, OneForOne}
use Rattle.leg_lib_records.proofs.Scaling.{pair_more, pair_all, pair_none, masters_named}
use Rattle.leg_lib_records.proofs.scale_shapes.masters_at.Goals as goal

pub loop-master-init : goal.loop-master-init
loop-master-init g c = rw c.new-masters.ensures.items tt

pub returns-in_err-master_at-clause-ok : goal.returns-in_err-master_at-clause-ok
returns-in_err-master_at-clause-ok g c = IfOk-from_err _ _ c.from_residual.ensures.0

pub returns-in_err-master_at-clause-none : goal.returns-in_err-master_at-clause-none
returns-in_err-master_at-clause-none g c =
    let p = err_from_is_err_and c.from_residual.result c.from_residual.ensures.1 in
    rw (p.1, p.2, ← c.as_slice-master-items.ensures.is)
    (λ not_memory. pair_none (IsMasterAt c.args.n) c.as_slice-master-items.result.now c.loop-master.master-index c.master-item.result c.loop-master-test.true
    c.master-item.is (c.in_err-master_at.ensures.none not_memory))

pub returns-in_err-master_at-clause-nameless : goal.returns-in_err-master_at-clause-nameless
returns-in_err-master_at-clause-nameless g c =
    let p = err_from_is_err_and c.from_residual.result c.from_residual.ensures.1 in
    rw (p.1, p.2) c.in_err-master_at.ensures.nameless

pub returns-in_err-push-clause-ok : goal.returns-in_err-push-clause-ok
returns-in_err-push-clause-ok g c = IfOk-from_err _ _ c.from_residual-in_err-push.ensures.0

pub returns-in_err-push-clause-none : goal.returns-in_err-push-clause-none
returns-in_err-push-clause-none g c =
    let p = err_from_is_err_and c.from_residual-in_err-push.result c.from_residual-in_err-push.ensures.1 in
    rw (p.1, p.2) (λ not_memory. absurd (not_memory refl))

pub returns-in_err-push-clause-nameless : goal.returns-in_err-push-clause-nameless
returns-in_err-push-clause-nameless g c =
    let p = err_from_is_err_and c.from_residual-in_err-push.result c.from_residual-in_err-push.ensures.1 in
    rw (p.1, p.2) (λ _. refl)

pub returns-in_err-with_items-clause-ok : goal.returns-in_err-with_items-clause-ok
returns-in_err-with_items-clause-ok g c = IfOk-from_err _ _ c.from_residual-in_err-with_items.ensures.0

pub returns-in_err-with_items-clause-none : goal.returns-in_err-with_items-clause-none
returns-in_err-with_items-clause-none g c =
    let p = err_from_is_err_and c.from_residual-in_err-with_items.result c.from_residual-in_err-with_items.ensures.1 in
    rw (p.1, p.2) (λ not_memory. absurd (not_memory refl))

pub returns-in_err-with_items-clause-nameless : goal.returns-in_err-with_items-clause-nameless
returns-in_err-with_items-clause-nameless g c =
    let p = err_from_is_err_and c.from_residual-in_err-with_items.result c.from_residual-in_err-with_items.ensures.1 in
    rw (p.1, p.2) (λ _. refl)

pub loop-master-preserved : goal.loop-master-preserved
loop-master-preserved g c =
    rw c.in_ok-push.ensures.items (pair_more (IsMasterAt c.args.n) c.as_slice-master-items.result.now c.loop-master.masters.items c.loop-master.master-index
    c.master-item.result c.in_ok-master_at.field-0 c.loop-master-test.true c.master-item.is c.loop-master.invariant c.in_ok-master_at.ensures.ok)

pub with_items-requires-clause-named : goal.with_items-requires-clause-named
with_items-requires-clause-named g c =
    let all : OneForOne (IsMasterAt c.args.n) c.as_slice-master-items.result.now c.loop-master.masters.items =
    pair_all (IsMasterAt c.args.n) c.as_slice-master-items.result.now c.loop-master.masters.items c.loop-master.master-index c.loop-master-test.false
    c.loop-master.invariant in
    masters_named c.args.n c.args.raw.now c.loop-master.masters.items (rw c.as_slice-master-items.ensures.is at all)

pub with_items-requires-clause-few : goal.with_items-requires-clause-few
with_items-requires-clause-few g c = tt

pub returns-clause-ok : goal.returns-clause-ok
returns-clause-ok g c =
    let all : OneForOne (IsMasterAt c.args.n) c.as_slice-master-items.result.now c.loop-master.masters.items =
    pair_all (IsMasterAt c.args.n) c.as_slice-master-items.result.now c.loop-master.masters.items c.loop-master.master-index c.loop-master-test.false
    c.loop-master.invariant in
    rw c.in_ok-with_items.ensures (rw c.as_slice-master-items.ensures.is at all)
