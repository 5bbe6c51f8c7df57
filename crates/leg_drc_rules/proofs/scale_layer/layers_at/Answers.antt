use Rattle.std.proofs.Common.{add-one, refl}
use Rattle.std.proofs.lemmas.Result.{err_from_is_err_and}
use Rattle.leg_drc_rules.proofs.Scaling.{layers_more, layers_none}
use Rattle.leg_drc_rules.proofs.scale_layer.layers_at.Goals as goal

pub returns-in_err-any_rules_at-clause-none : goal.returns-in_err-any_rules_at-clause-none
returns-in_err-any_rules_at-clause-none g c =
    let p = err_from_is_err_and c.from_residual.result c.from_residual.ensures.1 in
    rw (p.1, p.2) (λ not_memory. layers_none c.args.n c.args.layers.now c.args.raw.now c.layers.number c.index-layers-number.result c.layers-test.true
    c.index-layers-number.is (c.in_err-any_rules_at.ensures.none not_memory))

pub returns-in_err-push-clause-none : goal.returns-in_err-push-clause-none
returns-in_err-push-clause-none g c =
    let p = err_from_is_err_and c.from_residual-in_err-push.result c.from_residual-in_err-push.ensures.1 in
    rw (p.1, p.2) (λ not_memory. absurd (not_memory refl))

pub layers-preserved : goal.layers-preserved
layers-preserved g c =
    rw c.in_ok-push.ensures.items (rw add-one (layers_more c.args.n c.args.layers.now c.args.raw.now c.layers.rules.items c.layers.number
    c.index-layers-number.result c.in_ok-any_rules_at.field-0 c.layers-test.true c.index-layers-number.is c.layers.invariant c.in_ok-any_rules_at.ensures.ok))
