use Rattle.std.proofs.lemmas.Result.{IfOk-from_err, err_from_is_err_and}
use Rattle.leg_lib_records.specs.Scale.{IsPinAt}
use Rattle.leg_lib_records.proofs.Scaling.{pair_more, pair_all, pair_none}
use Rattle.leg_lib_records.proofs.scale_shapes.pins_at.Goals as goal

pub loop-pin-init : goal.loop-pin-init
loop-pin-init g c = rw c.new-pins.ensures.items tt

pub returns-in_err-pin_at-clause-ok : goal.returns-in_err-pin_at-clause-ok
returns-in_err-pin_at-clause-ok g c = IfOk-from_err _ _ c.from_residual.ensures.0

pub returns-in_err-pin_at-clause-none : goal.returns-in_err-pin_at-clause-none
returns-in_err-pin_at-clause-none g c =
    let p = err_from_is_err_and c.from_residual.result c.from_residual.ensures.1 in
    rw (p.1, p.2) (λ not_memory. pair_none (IsPinAt c.args.n c.args.shift.now) c.args.raw.now c.loop-pin.pin-index c.pin-item.result c.loop-pin-test.true
    c.pin-item.is (c.in_err-pin_at.ensures.none not_memory))

pub returns-in_err-push-clause-ok : goal.returns-in_err-push-clause-ok
returns-in_err-push-clause-ok g c = IfOk-from_err _ _ c.from_residual-in_err-push.ensures.0

pub returns-in_err-push-clause-none : goal.returns-in_err-push-clause-none
returns-in_err-push-clause-none g c =
    let p = err_from_is_err_and c.from_residual-in_err-push.result c.from_residual-in_err-push.ensures.1 in
    rw p.1 (λ not_memory. absurd (not_memory p.2))

pub loop-pin-preserved : goal.loop-pin-preserved
loop-pin-preserved g c =
    rw c.in_ok-push.ensures.items (pair_more (IsPinAt c.args.n c.args.shift.now) c.args.raw.now c.loop-pin.pins.items c.loop-pin.pin-index c.pin-item.result
    c.in_ok-pin_at.field-0 c.loop-pin-test.true c.pin-item.is c.loop-pin.invariant c.in_ok-pin_at.ensures.ok)

pub returns-clause-ok : goal.returns-clause-ok
returns-clause-ok g c =
    rw c.from_vec.ensures (pair_all (IsPinAt c.args.n c.args.shift.now) c.args.raw.now c.loop-pin.pins.items c.loop-pin.pin-index c.loop-pin-test.false
    c.loop-pin.invariant)
