use Rattle.std.proofs.lemmas.Result.{IfOk-weaker}
use Rattle.leg_app.proofs.AnswerLemmas.{ok_both}
use Rattle.leg_app.proofs.legalise_answer.legalise_answer.Goals as goal

pub returns-in_ok-text-in-Ok-clause-is : goal.returns-in_ok-text-in-Ok-clause-is
returns-in_ok-text-in-Ok-clause-is g c = record {
  legalised = c.in-Ok.legalised;
  legalises = record {
    legal = c.in-Ok.ensures.legal;
    same = c.in-Ok.ensures.same;
    run = c.in-Ok.ensures.run;
    proper = c.design_is_sound.ensures.proper;
    sound = c.design_is_sound.ensures.library;
  };
  distances = c.in-Ok.moves.per_component;
  total = c.in-Ok.moves.total;
  greatest = c.in-Ok.moves.greatest;
  moves = c.in-Ok.ensures.moves;
  is = c.in_ok-text-in-Ok.ensures;
}

pub returns-in-Err-clause-is : goal.returns-in-Err-clause-is
returns-in-Err-clause-is g c =
    let tells = rw c.in-Err.ensures.unchanged at c.not_legalised.ensures.tells in
    IfOk-weaker c.not_legalised.result _ _ (λ answer both. rw both.0 (both.1 c.in-Err.ensures.refused))
    (ok_both _ _ c.not_legalised.result c.not_legalised.ensures.status tells)
