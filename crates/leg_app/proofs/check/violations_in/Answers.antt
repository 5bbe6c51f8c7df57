use Rattle.std.proofs.lemmas.Result.{err_from_is_err_and, IfOk-weaker, IfErr-weaker}
use Rattle.leg_app.proofs.AnswerLemmas.{refuses_weaker}
use Rattle.leg_app.proofs.Denotations.{nothing_under}
use Rattle.leg_app.proofs.check.violations_in.Goals as goal

pub returns-in_err-library-clause-refused : goal.returns-in_err-library-clause-refused
returns-in_err-library-clause-refused g c =
    let p = err_from_is_err_and c.from_residual.result c.from_residual.ensures.1 in
    rw (p.1, p.2) (refuses_weaker _ (nothing_under _ _ _) (λ none. absurd none) c.in_err-library.ensures.none)

pub returns-clause-found : goal.returns-clause-found
returns-clause-found g c =
    let said = c.in_ok-library.ensures in
    IfOk-weaker c.check_def.result _ _ (λ list all. all _ (record { found = said.found; only = said.only })) (rw said.text at c.check_def.ensures.found)

pub returns-clause-refused : goal.returns-clause-refused
returns-clause-refused g c =
    let said = c.in_ok-library.ensures in
    IfErr-weaker c.check_def.result _ _ (λ fault all. all _ (record { found = said.found; only = said.only })) (rw said.text at c.check_def.ensures.refused)
