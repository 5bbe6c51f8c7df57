use Rattle.std.proofs.Common.{None}
use Rattle.std.proofs.lemmas.Result.{IfOk-weaker}
use Rattle.leg_app_input.specs.declared.command.Command.TheVariants.{PlaceCheck}
use Rattle.leg_app.proofs.AnswerLemmas.{ok_both, nothing_there, listed_answer}
use Rattle.leg_app.proofs.Reasons.{explains_listing}
use Rattle.leg_app.proofs.answer.placement_answer.Goals as goal

pub returns : goal.returns
returns g c =
    let design = c.args.design.now in
    let violations = c.in_ok-violations.violations.items in
    let list = c.in_ok-violations.ensures in
    let listed = rw (nothing_there (λ flat. flat.now) c.as_ref.result c.as_ref.ensures.variant, c.deref.ensures.value) at c.listing.ensures.listed in
    IfOk-weaker c.listing.result _ _
    (λ answer both profile lefs def say. record {
      answer = listed_answer PlaceCheck profile lefs def design.library design None violations answer.status answer.text.items say tt list both.0;
      explains = explains_listing design None violations answer.status answer.reason answer.text.items _ both.1 both.0;
    })
    (ok_both _ _ c.listing.result listed c.listing.ensures.no_reason)
