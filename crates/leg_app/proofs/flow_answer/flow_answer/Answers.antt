use Rattle.std.proofs.lemmas.Result.{IfOk-weaker}
use Rattle.leg_app.specs.LegaliseResult.{Legalises}
use Rattle.leg_app.specs.FlowResult.ReportsFlowStopped.{not_legalised}
use Rattle.leg_app.proofs.AnswerLemmas.{ok_both}
use Rattle.leg_app.proofs.flow_answer.flow_answer.Goals as goal

pub returns-in-Ok-clause-is : goal.returns-in-Ok-clause-is
returns-in-Ok-clause-is g c =
    let legalises : Legalises c.args.design c.in-Ok.legalised = record {
      legal = c.in-Ok.ensures.legal;
      same = c.in-Ok.ensures.same;
      run = c.in-Ok.ensures.run;
      proper = c.design_is_sound.ensures.proper;
      sound = c.design_is_sound.ensures.library;
    } in
    IfOk-weaker c.routing_answer.result _ _ (λ answer made. made c.args.design legalises c.in-Ok.ensures.moves) c.routing_answer.ensures.is

pub returns-in-Ok-clause-explains : goal.returns-in-Ok-clause-explains
returns-in-Ok-clause-explains g c =
    let legalises : Legalises c.args.design c.in-Ok.legalised = record {
      legal = c.in-Ok.ensures.legal;
      same = c.in-Ok.ensures.same;
      run = c.in-Ok.ensures.run;
      proper = c.design_is_sound.ensures.proper;
      sound = c.design_is_sound.ensures.library;
    } in
    IfOk-weaker c.routing_answer.result _ _ (λ answer told. told c.args.design legalises) c.routing_answer.ensures.explains

pub returns-in-Err-clause-is : goal.returns-in-Err-clause-is
returns-in-Err-clause-is g c =
    let tells = rw c.in-Err.ensures.unchanged at c.not_legalised.ensures.tells in
    IfOk-weaker c.not_legalised.result _ _
    (λ answer both. rw both.0 (not_legalised (both.1 c.in-Err.ensures.refused)))
    (ok_both _ _ c.not_legalised.result c.not_legalised.ensures.status tells)
