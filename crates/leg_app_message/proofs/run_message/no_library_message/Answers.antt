use Rattle.std.proofs.lemmas.Result.{IfOk-weaker}
use Rattle.leg_app_message.proofs.run_message.no_library_message.Goals as goal

pub returns : goal.returns
returns g c = IfOk-weaker c.line_message.result _ _ (λ m is. (c.note_of-note.result, is)) c.line_message.ensures
