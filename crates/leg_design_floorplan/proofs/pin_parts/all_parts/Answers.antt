use Rattle.std.proofs.Common.{◌∙◌, refl, sym}
use Rattle.std.proofs.lemmas.Result.{err_from_is_err_and}
use Rattle.leg_lex.proofs.EachElement.{over_ends, over_goes_on, over_fails}
use Rattle.leg_grammar.specs.Def.PinClauses.{pin_clause}
use Rattle.leg_design_floorplan.proofs.pin_parts.all_parts.Goals as goal

pub loop-clause-init : goal.loop-clause-init
loop-clause-init g c = rw c.new-parts.ensures refl

pub returns-in_err-add : goal.returns-in_err-add
returns-in_err-add g c =
    let p = err_from_is_err_and c.from_residual.result c.from_residual.ensures.1 in
    rw (p.1, p.2) (λ not_memory. sym c.loop-clause.invariant
    ∙ over_fails (pin_clause c.args.scope.now) c.loop-clause.parts c.args.clauses.now c.loop-clause.clause-index c.clause-item.result c.loop-clause-test.true
    c.clause-item.is (rw c.again.ensures at c.in_err-add.ensures not_memory))

pub loop-clause-preserved : goal.loop-clause-preserved
loop-clause-preserved g c =
    rw (← over_goes_on (pin_clause c.args.scope.now) c.loop-clause.parts c.add.new.self c.args.clauses.now c.loop-clause.clause-index c.clause-item.result
    c.loop-clause-test.true c.clause-item.is (rw c.again.ensures at c.in_ok-add.ensures)) c.loop-clause.invariant

pub returns : goal.returns
returns g c =
    sym c.loop-clause.invariant
    ∙ over_ends (pin_clause c.args.scope.now) c.loop-clause.parts c.args.clauses.now c.loop-clause.clause-index c.loop-clause-test.false
