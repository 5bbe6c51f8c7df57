use Rattle.std.proofs.lemmas.Result.{IfOk-from_err, err_from_is_err_and}
use Rattle.leg_drc_rules.specs.Scale.{IsRowAt}
use Rattle.leg_drc_rules.proofs.Scaling.{pair_more, pair_all, pair_none}
use Rattle.leg_drc_rules.proofs.scale.rows_at.Goals as goal

pub loop-row-init : goal.loop-row-init
loop-row-init g c = rw c.new-rows.ensures.items tt

pub returns-in_err-row_at-clause-ok : goal.returns-in_err-row_at-clause-ok
returns-in_err-row_at-clause-ok g c = IfOk-from_err _ _ c.from_residual.ensures.0

pub returns-in_err-row_at-clause-none : goal.returns-in_err-row_at-clause-none
returns-in_err-row_at-clause-none g c =
    let p = err_from_is_err_and c.from_residual.result c.from_residual.ensures.1 in
    rw (p.1, p.2) (λ not_memory. pair_none (IsRowAt c.args.n) c.args.raw.now c.loop-row.row-index c.row-item.result c.loop-row-test.true
    c.row-item.is (c.in_err-row_at.ensures.none not_memory))

pub returns-in_err-push-clause-ok : goal.returns-in_err-push-clause-ok
returns-in_err-push-clause-ok g c = IfOk-from_err _ _ c.from_residual-in_err-push.ensures.0

pub returns-in_err-push-clause-none : goal.returns-in_err-push-clause-none
returns-in_err-push-clause-none g c =
    let p = err_from_is_err_and c.from_residual-in_err-push.result c.from_residual-in_err-push.ensures.1 in
    rw p.1 (λ not_memory. absurd (not_memory p.2))

pub loop-row-preserved : goal.loop-row-preserved
loop-row-preserved g c =
    rw c.in_ok-push.ensures.items (pair_more (IsRowAt c.args.n) c.args.raw.now c.loop-row.rows.items c.loop-row.row-index c.row-item.result
    c.in_ok-row_at.field-0 c.loop-row-test.true c.row-item.is c.loop-row.invariant c.in_ok-row_at.ensures.ok)

pub returns-clause-ok : goal.returns-clause-ok
returns-clause-ok g c =
    rw c.from_vec.ensures (pair_all (IsRowAt c.args.n) c.args.raw.now c.loop-row.rows.items c.loop-row.row-index c.loop-row-test.false
    c.loop-row.invariant)
