use Rattle.std.proofs.lemmas.Result.{IfOk-from_err, err_from_is_err_and}
use Rattle.leg_drc_rules.specs.Scale.{IsLineEndAt}
use Rattle.leg_drc_rules.proofs.Scaling.{pair_more, pair_all, pair_none}
use Rattle.leg_drc_rules.proofs.scale.line_ends_at.Goals as goal

pub loop-line_end-init : goal.loop-line_end-init
loop-line_end-init g c = rw c.new-line_ends.ensures.items tt

pub returns-in_err-line_end_at-clause-ok : goal.returns-in_err-line_end_at-clause-ok
returns-in_err-line_end_at-clause-ok g c = IfOk-from_err _ _ c.from_residual.ensures.0

pub returns-in_err-line_end_at-clause-none : goal.returns-in_err-line_end_at-clause-none
returns-in_err-line_end_at-clause-none g c =
    let p = err_from_is_err_and c.from_residual.result c.from_residual.ensures.1 in
    rw (p.1, p.2) (λ not_memory. pair_none (IsLineEndAt c.args.n) c.args.raw.now c.loop-line_end.line_end-index c.line_end-item.result c.loop-line_end-test.true
    c.line_end-item.is c.in_err-line_end_at.ensures.none)

pub returns-in_err-push-clause-ok : goal.returns-in_err-push-clause-ok
returns-in_err-push-clause-ok g c = IfOk-from_err _ _ c.from_residual-in_err-push.ensures.0

pub returns-in_err-push-clause-none : goal.returns-in_err-push-clause-none
returns-in_err-push-clause-none g c =
    let p = err_from_is_err_and c.from_residual-in_err-push.result c.from_residual-in_err-push.ensures.1 in
    rw p.1 (λ not_memory. absurd (not_memory p.2))

pub loop-line_end-preserved : goal.loop-line_end-preserved
loop-line_end-preserved g c =
    rw c.in_ok-push.ensures.items (pair_more (IsLineEndAt c.args.n) c.args.raw.now c.loop-line_end.line_ends.items c.loop-line_end.line_end-index
    c.line_end-item.result
    c.in_ok-line_end_at.field-0 c.loop-line_end-test.true c.line_end-item.is c.loop-line_end.invariant c.in_ok-line_end_at.ensures.ok)

pub returns-clause-ok : goal.returns-clause-ok
returns-clause-ok g c =
    rw c.from_vec.ensures (pair_all (IsLineEndAt c.args.n) c.args.raw.now c.loop-line_end.line_ends.items c.loop-line_end.line_end-index
    c.loop-line_end-test.false
    c.loop-line_end.invariant)
