use Rattle.std.proofs.Common.{refl}
use Rattle.std.proofs.lemmas.Result.{IfOk-from_err, err_from_is_err_and}
use Rattle.leg_lib_records.specs.Scale.{IsRuleAt, OneForOne}
use Rattle.leg_lib_records.proofs.Scaling.{pair_more, pair_all, pair_none, rules_named}
use Rattle.leg_lib_records.proofs.scale_rules.rules_at.Goals as goal

pub loop-rule-init : goal.loop-rule-init
loop-rule-init g c = rw c.new-rules.ensures.items tt

pub returns-in_err-rule_at-clause-ok : goal.returns-in_err-rule_at-clause-ok
returns-in_err-rule_at-clause-ok g c = IfOk-from_err _ _ c.from_residual.ensures.0

pub returns-in_err-rule_at-clause-none : goal.returns-in_err-rule_at-clause-none
returns-in_err-rule_at-clause-none g c =
    let p = err_from_is_err_and c.from_residual.result c.from_residual.ensures.1 in
    rw (p.1, p.2, ← c.as_slice-rule-items.ensures.is)
    (λ not_memory. pair_none (IsRuleAt c.args.n) c.as_slice-rule-items.result.now c.loop-rule.rule-index c.rule-item.result c.loop-rule-test.true c.rule-item.is
    (c.in_err-rule_at.ensures.none not_memory))

pub returns-in_err-rule_at-clause-nameless : goal.returns-in_err-rule_at-clause-nameless
returns-in_err-rule_at-clause-nameless g c =
    let p = err_from_is_err_and c.from_residual.result c.from_residual.ensures.1 in
    rw (p.1, p.2) c.in_err-rule_at.ensures.nameless

pub returns-in_err-push-clause-ok : goal.returns-in_err-push-clause-ok
returns-in_err-push-clause-ok g c = IfOk-from_err _ _ c.from_residual-in_err-push.ensures.0

pub returns-in_err-push-clause-none : goal.returns-in_err-push-clause-none
returns-in_err-push-clause-none g c =
    let p = err_from_is_err_and c.from_residual-in_err-push.result c.from_residual-in_err-push.ensures.1 in
    rw (p.1, p.2) (λ not_memory. absurd (not_memory refl))

pub returns-in_err-push-clause-nameless : goal.returns-in_err-push-clause-nameless
returns-in_err-push-clause-nameless g c =
    let p = err_from_is_err_and c.from_residual-in_err-push.result c.from_residual-in_err-push.ensures.1 in
    rw (p.1, p.2) (λ _. refl)

pub returns-in_err-with_items-clause-ok : goal.returns-in_err-with_items-clause-ok
returns-in_err-with_items-clause-ok g c = IfOk-from_err _ _ c.from_residual-in_err-with_items.ensures.0

pub returns-in_err-with_items-clause-none : goal.returns-in_err-with_items-clause-none
returns-in_err-with_items-clause-none g c =
    let p = err_from_is_err_and c.from_residual-in_err-with_items.result c.from_residual-in_err-with_items.ensures.1 in
    rw (p.1, p.2) (λ not_memory. absurd (not_memory refl))

pub returns-in_err-with_items-clause-nameless : goal.returns-in_err-with_items-clause-nameless
returns-in_err-with_items-clause-nameless g c =
    let p = err_from_is_err_and c.from_residual-in_err-with_items.result c.from_residual-in_err-with_items.ensures.1 in
    rw (p.1, p.2) (λ _. refl)

pub loop-rule-preserved : goal.loop-rule-preserved
loop-rule-preserved g c =
    rw c.in_ok-push.ensures.items (pair_more (IsRuleAt c.args.n) c.as_slice-rule-items.result.now c.loop-rule.rules.items c.loop-rule.rule-index c.rule-item.result
    c.in_ok-rule_at.field-0 c.loop-rule-test.true c.rule-item.is c.loop-rule.invariant c.in_ok-rule_at.ensures.ok)

pub with_items-requires-clause-named : goal.with_items-requires-clause-named
with_items-requires-clause-named g c =
    let all : OneForOne (IsRuleAt c.args.n) c.as_slice-rule-items.result.now c.loop-rule.rules.items =
    pair_all (IsRuleAt c.args.n) c.as_slice-rule-items.result.now c.loop-rule.rules.items c.loop-rule.rule-index c.loop-rule-test.false c.loop-rule.invariant in
    rules_named c.args.n c.args.raw.now c.loop-rule.rules.items (rw c.as_slice-rule-items.ensures.is at all)

pub with_items-requires-clause-few : goal.with_items-requires-clause-few
with_items-requires-clause-few g c = tt

pub returns-clause-ok : goal.returns-clause-ok
returns-clause-ok g c =
    let all : OneForOne (IsRuleAt c.args.n) c.as_slice-rule-items.result.now c.loop-rule.rules.items =
    pair_all (IsRuleAt c.args.n) c.as_slice-rule-items.result.now c.loop-rule.rules.items c.loop-rule.rule-index c.loop-rule-test.false c.loop-rule.invariant in
    rw c.in_ok-with_items.ensures (rw c.as_slice-rule-items.ensures.is at all)
