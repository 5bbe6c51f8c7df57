use Rattle.std.proofs.Common.{refl}
use Rattle.std.proofs.lemmas.Result.{IfOk-weaker}
use Rattle.leg_app_input.specs.declared.command.Command.TheVariants.{Flow}
use Rattle.leg_app.specs.FlowResult.ReportsFlowStopped.{not_routed}
use Rattle.leg_app.proofs.AnswerLemmas.{ok_both}
use Rattle.leg_app.proofs.flow_answer.routing_answer.Goals as goal

pub returns-in_ok-text-in-Ok-clause-is : goal.returns-in_ok-text-in-Ok-clause-is
returns-in_ok-text-in-Ok-clause-is g c design legalises moves = record {
  legalised = c.args.legalised;
  legalises = legalises;
  routed = c.in-Ok.routed;
  routes = record {
    fits = c.in-Ok.ensures.fits;
    legal = c.in-Ok.ensures.legal;
    same = c.in-Ok.ensures.same;
    run = c.in-Ok.ensures.run;
    proper = c.design_is_sound.ensures.proper;
    sound = c.design_is_sound.ensures.library;
  };
  distances = c.args.moves.now.per_component;
  total = c.args.moves.now.total;
  greatest = c.args.moves.now.greatest;
  moves = moves;
  is = c.in_ok-text-in-Ok.ensures;
}

pub not_routed-requires : goal.not_routed-requires
not_routed-requires g c = rw c.in-Err.ensures.unchanged c.in-Err.ensures.refused

pub returns-in-Err-clause-is : goal.returns-in-Err-clause-is
returns-in-Err-clause-is g c =
    let tells = rw c.in-Err.ensures.unchanged at c.not_routed.ensures.tells in
    IfOk-weaker c.not_routed.result _ _
    (λ answer both design legalises moves. rw both.0 (not_routed legalises both.1))
    (ok_both _ _ c.not_routed.result c.not_routed.ensures.status tells)

pub returns-in-Err-clause-explains : goal.returns-in-Err-clause-explains
returns-in-Err-clause-explains g c =
    let explains = rw c.in-Err.ensures.unchanged at c.not_routed.ensures.explains in
    IfOk-weaker c.not_routed.result _ _ (λ answer told design legalises. told Flow design refl refl legalises) explains
