use Rattle.std.proofs.lemmas.Result.{IfOk-weaker}
use Rattle.leg_app_message.proofs.refused.refused_message.Goals as goal

pub returns : goal.returns
returns g c = IfOk-weaker c.fault_message.result _ _ (λ m is. (c.note_on-note.result, is)) c.fault_message.ensures
