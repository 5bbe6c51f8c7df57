use Rattle.std.proofs.lemmas.Result.{IfOk-from_err, err_from_is_err_and}
use Rattle.leg_lib_records.specs.Scale.{IsShapeAt}
use Rattle.leg_lib_records.proofs.Scaling.{pair_more, pair_all, pair_none}
use Rattle.leg_lib_records.proofs.scale_shapes.shapes_at.Goals as goal

pub loop-shape-init : goal.loop-shape-init
loop-shape-init g c = rw c.in_ok-shapes.ensures tt

pub returns-in_err-shape_at-clause-ok : goal.returns-in_err-shape_at-clause-ok
returns-in_err-shape_at-clause-ok g c = IfOk-from_err _ _ c.from_residual-in_err-shape_at.ensures.0

pub returns-in_err-shape_at-clause-none : goal.returns-in_err-shape_at-clause-none
returns-in_err-shape_at-clause-none g c =
    let p = err_from_is_err_and c.from_residual-in_err-shape_at.result c.from_residual-in_err-shape_at.ensures.1 in
    rw (p.1, p.2) (λ not_memory. pair_none (IsShapeAt c.args.n c.args.shift.now) c.args.raw.now c.loop-shape.shape-index c.shape-item.result
    c.loop-shape-test.true c.shape-item.is c.in_err-shape_at.ensures.none)

pub returns-in_err-push-clause-ok : goal.returns-in_err-push-clause-ok
returns-in_err-push-clause-ok g c = IfOk-from_err _ _ c.from_residual-in_err-push.ensures.0

pub returns-in_err-push-clause-none : goal.returns-in_err-push-clause-none
returns-in_err-push-clause-none g c =
    let p = err_from_is_err_and c.from_residual-in_err-push.result c.from_residual-in_err-push.ensures.1 in
    rw p.1 (λ not_memory. absurd (not_memory p.2))

pub loop-shape-preserved : goal.loop-shape-preserved
loop-shape-preserved g c =
    rw c.in_ok-push.ensures.pushed (pair_more (IsShapeAt c.args.n c.args.shift.now) c.args.raw.now c.loop-shape.shapes c.loop-shape.shape-index
    c.shape-item.result c.in_ok-shape_at.field-0 c.loop-shape-test.true c.shape-item.is c.loop-shape.invariant c.in_ok-shape_at.ensures.ok)

pub returns-clause-ok : goal.returns-clause-ok
returns-clause-ok g c =
    pair_all (IsShapeAt c.args.n c.args.shift.now) c.args.raw.now c.loop-shape.shapes c.loop-shape.shape-index
    c.loop-shape-test.false c.loop-shape.invariant
