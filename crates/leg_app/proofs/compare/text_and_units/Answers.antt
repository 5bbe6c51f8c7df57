use Rattle.std.proofs.lemmas.Result.{err_from_is_err_and}
use Rattle.leg_lex.proofs.Denotations.{says_nothing}
use Rattle.leg_grammar.specs.Def.Header.{units_in}
use Rattle.leg_app.proofs.compare.text_and_units.Goals as goal

pub returns-in_err-text-clause-none : goal.returns-in_err-text-clause-none
returns-in_err-text-clause-none g c =
    let p = err_from_is_err_and c.from_residual.result c.from_residual.ensures.1 in
    rw (p.1, p.2) (λ not_memory. says_nothing units_in c.args.def.now (c.in_err-text.ensures.none not_memory))

pub returns-in_err-units-clause-none : goal.returns-in_err-units-clause-none
returns-in_err-units-clause-none g c =
    let p = err_from_is_err_and c.from_residual-in_err-units.result c.from_residual-in_err-units.ensures.1 in
    rw (p.1, p.2) (rw c.in_ok-text.ensures.is at c.in_err-units.ensures.none)
