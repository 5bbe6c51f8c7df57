use Rattle.std.proofs.Common.{map}
use Rattle.std.proofs.lemmas.Result.{IfOk-weaker}
use Rattle.leg_grammar.specs.Texts.{DenoteNothing}
use Rattle.leg_app.specs.Steps.OneLibrary.{DenoteNoLibrary}
use Rattle.leg_app.proofs.AnswerLemmas.{refuses_weaker, master_of_none}
use Rattle.leg_app.proofs.Denotations.{nothing_under}
use Rattle.leg_app.proofs.answer.answer_to_as.Goals as goal

pub returns-in-Ok : goal.returns-in-Ok
returns-in-Ok g c =
    let said = c.in-Ok.ensures in
    IfOk-weaker c.library_answer.result _ _ (λ answer all. all _ (record { found = said.found; only = said.only })) (rw said.text at c.library_answer.ensures)

pub returns-in-Err : goal.returns-in-Err
returns-in-Err g c =
    let profile = c.args.profile in
    let lefs = map (λ t. t.now) c.args.lefs.now in
    let def = c.args.def.now in
    let fault = c.in-Err.fault in
    let none = c.in-Err.ensures.none in
    IfOk-weaker c.refusal.result _ _
    (λ answer all. all profile lefs def (refuses_weaker {nothing = DenoteNoLibrary profile lefs def} {other = DenoteNothing profile lefs def} {much = ⊥}
    {more = ⊥} fault
    (nothing_under profile lefs def) (λ much. much) none) c.in-Err.ensures.units (master_of_none profile lefs def fault none))
    c.refusal.ensures
