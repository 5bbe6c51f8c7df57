-- Where the text could not be made, `give` gave that memory ran out.
use Rattle.std.proofs.Common.{[], None, option_map, refl, subst}
use Rattle.leg_app.specs.declared.status.Status.TheVariants.{Memory}
use Rattle.leg_output.specs.Commands.Check.{memory_text}
use Rattle.leg_app.specs.Reason.{IsExplained}
use Rattle.leg_app_message.specs.Texts.{TextsModel}
use Rattle.leg_c_call.specs.Explanation.{said}
use Rattle.leg_c_call.proofs.ReasonModels.{explained_said}
use Rattle.leg_c_call.proofs.explained_call.answer_into.Goals as goal

pub returns-in-Ok : goal.returns-in-Ok
returns-in-Ok g c =
    let texts = c.args.texts.now in
    let answer = c.in-Ok.answer in
    let explained =
    subst
    (λ (t : TextsModel). IsExplained c.args.command t.profile t.lefs t.def answer.reason answer.status answer.text.items)
    c.texts.view_is
    c.in-Ok.ensures in
    record {
      status = answer.status;
      text = answer.text.items;
      reason = option_map said answer.reason;
      message = c.message_on-explanation.result.items;
      answer = explained_said c.args.command texts.profile texts.lefs texts.def answer.reason answer.status answer.text.items explained;
      ends = c.give.ensures.status;
      counts = rw c.deref-in-Ok.ensures.value at c.give.ensures.count;
      fills = rw c.deref-in-Ok.ensures.value at c.give.ensures.front;
      is = c.message_on-explanation.ensures;
      message_counts = rw c.deref.ensures.value at c.give_text.ensures.count;
      message_fills = rw c.deref.ensures.value at c.give_text.ensures.front;
    }

pub returns-in-Err : goal.returns-in-Err
returns-in-Err g c = record {
  status = Memory;
  text = memory_text;
  reason = None;
  message = [];
  answer = record { answer = refl; explains = tt };
  ends = c.give-in-Err.ensures.status;
  counts = c.give-in-Err.ensures.count;
  fills = c.give-in-Err.ensures.front;
  is = refl;
  message_counts = c.give_text-in-Err.ensures.count;
  message_fills = c.give_text-in-Err.ensures.front;
}
