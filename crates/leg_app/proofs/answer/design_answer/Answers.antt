use Rattle.std.proofs.lemmas.Result.{IfOk-weaker}
use Rattle.leg_app_input.specs.declared.command.Command.TheVariants.{Legalise, Route, Flow, Finish, Print}
use Rattle.leg_app.proofs.AnswerLemmas.{ok_both, made_answer}
use Rattle.leg_app.proofs.Reasons.{explains_texts}
use Rattle.leg_app.proofs.answer.design_answer.Goals as goal

pub returns-in-Legalise : goal.returns-in-Legalise
returns-in-Legalise g c =
    let design = c.args.design in
    rw c.in-Legalise.is (IfOk-weaker c.legalise_answer.result _ _
    (λ answer both profile lefs def say. record {
      answer = made_answer Legalise profile lefs def design.library design answer.status answer.text.items say both.0;
      explains = explains_texts Legalise profile lefs def design.library design answer.status answer.reason answer.text.items say both.1;
    })
    (ok_both _ _ c.legalise_answer.result c.legalise_answer.ensures.is c.legalise_answer.ensures.explains))

pub returns-in-Route : goal.returns-in-Route
returns-in-Route g c =
    let design = c.args.design in
    rw c.in-Route.is (IfOk-weaker c.route_answer.result _ _
    (λ answer both profile lefs def say. record {
      answer = made_answer Route profile lefs def design.library design answer.status answer.text.items say both.0;
      explains = explains_texts Route profile lefs def design.library design answer.status answer.reason answer.text.items say both.1;
    })
    (ok_both _ _ c.route_answer.result c.route_answer.ensures.is c.route_answer.ensures.explains))

pub returns-in-Flow : goal.returns-in-Flow
returns-in-Flow g c =
    let design = c.args.design in
    rw c.in-Flow.is (IfOk-weaker c.flow_answer.result _ _
    (λ answer both profile lefs def say. record {
      answer = made_answer Flow profile lefs def design.library design answer.status answer.text.items say both.0;
      explains = explains_texts Flow profile lefs def design.library design answer.status answer.reason answer.text.items say both.1;
    })
    (ok_both _ _ c.flow_answer.result c.flow_answer.ensures.is c.flow_answer.ensures.explains))

pub returns : goal.returns
returns g c =
    let design = c.args.design in
    rw c.in-Finish.is (IfOk-weaker c.finish_answer.result _ _
    (λ answer both profile lefs def say. record {
      answer = made_answer Finish profile lefs def design.library design answer.status answer.text.items say both.0;
      explains = explains_texts Finish profile lefs def design.library design answer.status answer.reason answer.text.items say both.1;
    })
    (ok_both _ _ c.finish_answer.result c.finish_answer.ensures.is c.finish_answer.ensures.explains))

pub returns-in-Print : goal.returns-in-Print
returns-in-Print g c =
    let design = c.args.design in
    rw c.in-Print.is (IfOk-weaker c.print_answer.result _ _
    (λ answer both profile lefs def say. record {
      answer = made_answer Print profile lefs def design.library design answer.status answer.text.items say both.0;
      explains = explains_texts Print profile lefs def design.library design answer.status answer.reason answer.text.items say both.1;
    })
    (ok_both _ _ c.print_answer.result c.print_answer.ensures.is c.print_answer.ensures.explains))

pub returns-in-Check : goal.returns-in-Check
returns-in-Check g c = rw c.in-Check.is c.whole_answer.ensures

pub returns-in-PlaceCheck : goal.returns-in-PlaceCheck
returns-in-PlaceCheck g c = rw c.in-PlaceCheck.is c.placement_answer.ensures

pub returns-in-Measure : goal.returns-in-Measure
returns-in-Measure g c = rw c.in-Measure.is c.measure_answer.ensures
