use Rattle.std.proofs.lemmas.Result.{IfOk-weaker}
use Rattle.leg_app.proofs.AnswerLemmas.{ok_both}
use Rattle.leg_app.proofs.finish_answer.finish_answer.Goals as goal

pub returns-in_ok-text-in-Ok-clause-is : goal.returns-in_ok-text-in-Ok-clause-is
returns-in_ok-text-in-Ok-clause-is g c = record {
  finished = c.in-Ok.finished;
  finishes = record {
    fits = c.in-Ok.ensures.fits;
    legal = c.in-Ok.ensures.legal;
    same = c.in-Ok.ensures.same;
    open_only = c.in-Ok.ensures.open_only;
    walks = c.in-Ok.ensures.walks;
    proper = c.design_is_sound.ensures.proper;
    sound = c.design_is_sound.ensures.library;
  };
  length = c.in-Ok.totals.length;
  vias = c.in-Ok.totals.vias;
  totals = c.in-Ok.ensures.totals;
  is = c.in_ok-text-in-Ok.ensures;
}

pub not_finished-requires : goal.not_finished-requires
not_finished-requires g c = rw c.in-Err.ensures.unchanged c.in-Err.ensures.refused

pub returns-in-Err-clause-is : goal.returns-in-Err-clause-is
returns-in-Err-clause-is g c =
    let tells = rw c.in-Err.ensures.unchanged at c.not_finished.ensures.tells in
    IfOk-weaker c.not_finished.result _ _ (λ answer both. rw both.0 (both.1)) (ok_both _ _ c.not_finished.result c.not_finished.ensures.status tells)
