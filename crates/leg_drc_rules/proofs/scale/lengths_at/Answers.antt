use Rattle.std.proofs.Common.{FitsSigned, w64, rules}
use Rattle.std.proofs.lemmas.Int.{to_z-of_z}
use Rattle.std.proofs.lemmas.Result.{IfOk-from_err, err_from_is_err_and}
use Rattle.leg_lib_records.specs.Scale.{IsLengthAt}
use Rattle.leg_drc_rules.proofs.Scaling.{pair_more, pair_all, pair_none}
use Rattle.leg_drc_rules.proofs.scale.lengths_at.Goals as goal

pub loop-length-init : goal.loop-length-init
loop-length-init g c = rw c.new-lengths.ensures.items tt

pub returns-in_err-length_or-clause-ok : goal.returns-in_err-length_or-clause-ok
returns-in_err-length_or-clause-ok g c = IfOk-from_err _ _ c.from_residual.ensures.0

pub returns-in_err-length_or-clause-none : goal.returns-in_err-length_or-clause-none
returns-in_err-length_or-clause-none g c =
    let p = err_from_is_err_and c.from_residual.result c.from_residual.ensures.1 in
    rw (p.1, p.2) (λ not_memory. pair_none (IsLengthAt c.args.n) c.args.raw.now c.loop-length.length-index c.length-item.result c.loop-length-test.true
    c.length-item.is c.in_err-length_or.ensures.none)

pub returns-in_err-push-clause-ok : goal.returns-in_err-push-clause-ok
returns-in_err-push-clause-ok g c = IfOk-from_err _ _ c.from_residual-in_err-push.ensures.0

pub returns-in_err-push-clause-none : goal.returns-in_err-push-clause-none
returns-in_err-push-clause-none g c =
    let p = err_from_is_err_and c.from_residual-in_err-push.result c.from_residual-in_err-push.ensures.1 in
    rw p.1 (λ not_memory. absurd (not_memory p.2))

pub loop-length-preserved : goal.loop-length-preserved
loop-length-preserved g c =
    let fits : FitsSigned w64 c.in_ok-length_or.field-0 = search rules in
    rw c.in_ok-push.ensures.items (simp to_z-of_z (pair_more (IsLengthAt c.args.n) c.args.raw.now c.loop-length.lengths.items c.loop-length.length-index
    c.length-item.result c.in_ok-length_or.field-0 c.loop-length-test.true c.length-item.is c.loop-length.invariant c.in_ok-length_or.ensures.ok))

pub returns-clause-ok : goal.returns-clause-ok
returns-clause-ok g c =
    rw c.from_vec.ensures (pair_all (IsLengthAt c.args.n) c.args.raw.now c.loop-length.lengths.items c.loop-length.length-index c.loop-length-test.false
    c.loop-length.invariant)
