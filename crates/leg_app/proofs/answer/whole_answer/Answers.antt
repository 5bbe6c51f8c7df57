use Rattle.std.proofs.Common.{Some}
use Rattle.std.proofs.lemmas.Result.{IfOk-weaker}
use Rattle.leg_app_input.specs.declared.command.Command.TheVariants.{Check}
use Rattle.leg_app.proofs.AnswerLemmas.{ok_both, listed_answer}
use Rattle.leg_app.proofs.Reasons.{explains_listing}
use Rattle.leg_app.proofs.answer.whole_answer.Goals as goal

pub returns-in-Ok : goal.returns-in-Ok
returns-in-Ok g c =
    let design = c.args.design.now in
    let checked = c.in-Ok.checked in
    let flat = Some checked.flat in
    let violations = checked.violations.items in
    IfOk-weaker c.listing.result _ _
    (λ answer both profile lefs def say. record {
      answer =
          listed_answer Check profile lefs def design.library design flat violations answer.status answer.text.items say c.in-Ok.ensures.flat
          c.in-Ok.ensures.list both.0;
      explains = explains_listing design flat violations answer.status answer.reason answer.text.items _ both.1 both.0;
    })
    (ok_both _ _ c.listing.result (rw c.deref.ensures.value at c.listing.ensures.listed) c.listing.ensures.no_reason)
