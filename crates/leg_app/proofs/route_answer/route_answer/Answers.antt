use Rattle.leg_app.proofs.AnswerLemmas.{ok_both}
use Rattle.std.proofs.Common.{refl}
use Rattle.std.proofs.lemmas.Result.{IfOk-weaker}
use Rattle.leg_app_input.specs.declared.command.Command.TheVariants.{Route}
use Rattle.leg_app.proofs.route_answer.route_answer.Goals as goal

pub returns-in_ok-text-in-Ok-clause-is : goal.returns-in_ok-text-in-Ok-clause-is
returns-in_ok-text-in-Ok-clause-is g c = record {
  routed = c.in-Ok.routed;
  routes = record {
    fits = c.in-Ok.ensures.fits;
    legal = c.in-Ok.ensures.legal;
    same = c.in-Ok.ensures.same;
    run = c.in-Ok.ensures.run;
    proper = c.design_is_sound.ensures.proper;
    sound = c.design_is_sound.ensures.library;
  };
  is = c.in_ok-text-in-Ok.ensures;
}

pub not_routed-requires : goal.not_routed-requires
not_routed-requires g c = rw c.in-Err.ensures.unchanged c.in-Err.ensures.refused

pub returns-in-Err-clause-is : goal.returns-in-Err-clause-is
returns-in-Err-clause-is g c =
    let tells = rw c.in-Err.ensures.unchanged at c.not_routed.ensures.tells in
    IfOk-weaker c.not_routed.result _ _ (λ answer both. rw both.0 (both.1)) (ok_both _ _ c.not_routed.result c.not_routed.ensures.status tells)

pub returns-in-Err-clause-explains : goal.returns-in-Err-clause-explains
returns-in-Err-clause-explains g c =
    let explains = rw c.in-Err.ensures.unchanged at c.not_routed.ensures.explains in
    IfOk-weaker c.not_routed.result _ _ (λ answer told. told Route c.args.design refl refl refl) explains
