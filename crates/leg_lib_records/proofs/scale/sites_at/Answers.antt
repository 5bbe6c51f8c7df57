use Rattle.std.proofs.Common.{refl}
use Rattle.std.proofs.lemmas.Result.{IfOk-from_err, err_from_is_err_and}
use Rattle.leg_lib_records.specs.Scale.{IsSiteAt, OneForOne}
use Rattle.leg_lib_records.proofs.Scaling.{pair_more, pair_all, pair_none, sites_named}
use Rattle.leg_lib_records.proofs.scale.sites_at.Goals as goal

pub loop-site-init : goal.loop-site-init
loop-site-init g c = rw c.new-sites.ensures.items tt

pub returns-in_err-site_at-clause-ok : goal.returns-in_err-site_at-clause-ok
returns-in_err-site_at-clause-ok g c = IfOk-from_err _ _ c.from_residual.ensures.0

pub returns-in_err-site_at-clause-none : goal.returns-in_err-site_at-clause-none
returns-in_err-site_at-clause-none g c =
    let p = err_from_is_err_and c.from_residual.result c.from_residual.ensures.1 in
    rw (p.1, p.2, ← c.as_slice-site-items.ensures.is)
    (λ not_memory. pair_none (IsSiteAt c.args.n) c.as_slice-site-items.result.now c.loop-site.site-index c.site-item.result c.loop-site-test.true
    c.site-item.is c.in_err-site_at.ensures.none)

pub returns-in_err-site_at-clause-nameless : goal.returns-in_err-site_at-clause-nameless
returns-in_err-site_at-clause-nameless g c =
    let p = err_from_is_err_and c.from_residual.result c.from_residual.ensures.1 in
    rw (p.1, p.2) c.in_err-site_at.ensures.nameless

pub returns-in_err-push-clause-ok : goal.returns-in_err-push-clause-ok
returns-in_err-push-clause-ok g c = IfOk-from_err _ _ c.from_residual-in_err-push.ensures.0

pub returns-in_err-push-clause-none : goal.returns-in_err-push-clause-none
returns-in_err-push-clause-none g c =
    let p = err_from_is_err_and c.from_residual-in_err-push.result c.from_residual-in_err-push.ensures.1 in
    rw (p.1, p.2) (λ not_memory. absurd (not_memory refl))

pub returns-in_err-push-clause-nameless : goal.returns-in_err-push-clause-nameless
returns-in_err-push-clause-nameless g c =
    let p = err_from_is_err_and c.from_residual-in_err-push.result c.from_residual-in_err-push.ensures.1 in
    rw (p.1, p.2) (λ _. refl)

pub returns-in_err-with_items-clause-ok : goal.returns-in_err-with_items-clause-ok
returns-in_err-with_items-clause-ok g c = IfOk-from_err _ _ c.from_residual-in_err-with_items.ensures.0

pub returns-in_err-with_items-clause-none : goal.returns-in_err-with_items-clause-none
returns-in_err-with_items-clause-none g c =
    let p = err_from_is_err_and c.from_residual-in_err-with_items.result c.from_residual-in_err-with_items.ensures.1 in
    rw (p.1, p.2) (λ not_memory. absurd (not_memory refl))

pub returns-in_err-with_items-clause-nameless : goal.returns-in_err-with_items-clause-nameless
returns-in_err-with_items-clause-nameless g c =
    let p = err_from_is_err_and c.from_residual-in_err-with_items.result c.from_residual-in_err-with_items.ensures.1 in
    rw (p.1, p.2) (λ _. refl)

pub loop-site-preserved : goal.loop-site-preserved
loop-site-preserved g c =
    rw c.in_ok-push.ensures.items (pair_more (IsSiteAt c.args.n) c.as_slice-site-items.result.now c.loop-site.sites.items c.loop-site.site-index
    c.site-item.result c.in_ok-site_at.field-0 c.loop-site-test.true c.site-item.is c.loop-site.invariant c.in_ok-site_at.ensures.ok)

pub with_items-requires-clause-named : goal.with_items-requires-clause-named
with_items-requires-clause-named g c =
    let all : OneForOne (IsSiteAt c.args.n) c.as_slice-site-items.result.now c.loop-site.sites.items =
    pair_all (IsSiteAt c.args.n) c.as_slice-site-items.result.now c.loop-site.sites.items c.loop-site.site-index c.loop-site-test.false c.loop-site.invariant in
    sites_named c.args.n c.args.raw.now c.loop-site.sites.items (rw c.as_slice-site-items.ensures.is at all)

pub with_items-requires-clause-few : goal.with_items-requires-clause-few
with_items-requires-clause-few g c = tt

pub returns-clause-ok : goal.returns-clause-ok
returns-clause-ok g c =
    let all : OneForOne (IsSiteAt c.args.n) c.as_slice-site-items.result.now c.loop-site.sites.items =
    pair_all (IsSiteAt c.args.n) c.as_slice-site-items.result.now c.loop-site.sites.items c.loop-site.site-index c.loop-site-test.false c.loop-site.invariant in
    rw c.in_ok-with_items.ensures (rw c.as_slice-site-items.ensures.is at all)
