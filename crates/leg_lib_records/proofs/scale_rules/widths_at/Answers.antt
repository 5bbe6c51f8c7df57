use Rattle.std.proofs.lemmas.Result.{IfOk-from_err, err_from_is_err_and}
use Rattle.leg_lib_records.specs.Scale.{IsRuleWidthAt}
use Rattle.leg_lib_records.proofs.Scaling.{pair_more, pair_all, pair_none}
use Rattle.leg_lib_records.proofs.scale_rules.widths_at.Goals as goal

pub loop-width-init : goal.loop-width-init
loop-width-init g c = rw c.new-widths.ensures.items tt

pub returns-in_err-width_at-clause-ok : goal.returns-in_err-width_at-clause-ok
returns-in_err-width_at-clause-ok g c = IfOk-from_err _ _ c.from_residual.ensures.0

pub returns-in_err-width_at-clause-none : goal.returns-in_err-width_at-clause-none
returns-in_err-width_at-clause-none g c =
    let p = err_from_is_err_and c.from_residual.result c.from_residual.ensures.1 in
    rw (p.1, p.2) (λ not_memory. pair_none (IsRuleWidthAt c.args.n) c.args.raw.now c.loop-width.width-index c.width-item.result c.loop-width-test.true
    c.width-item.is c.in_err-width_at.ensures.none)

pub returns-in_err-push-clause-ok : goal.returns-in_err-push-clause-ok
returns-in_err-push-clause-ok g c = IfOk-from_err _ _ c.from_residual-in_err-push.ensures.0

pub returns-in_err-push-clause-none : goal.returns-in_err-push-clause-none
returns-in_err-push-clause-none g c =
    let p = err_from_is_err_and c.from_residual-in_err-push.result c.from_residual-in_err-push.ensures.1 in
    rw p.1 (λ not_memory. absurd (not_memory p.2))

pub loop-width-preserved : goal.loop-width-preserved
loop-width-preserved g c =
    rw c.in_ok-push.ensures.items (pair_more (IsRuleWidthAt c.args.n) c.args.raw.now c.loop-width.widths.items c.loop-width.width-index c.width-item.result
    c.in_ok-width_at.field-0 c.loop-width-test.true c.width-item.is c.loop-width.invariant c.in_ok-width_at.ensures.ok)

pub returns-clause-ok : goal.returns-clause-ok
returns-clause-ok g c =
    rw c.from_vec.ensures (pair_all (IsRuleWidthAt c.args.n) c.args.raw.now c.loop-width.widths.items c.loop-width.width-index c.loop-width-test.false
    c.loop-width.invariant)
