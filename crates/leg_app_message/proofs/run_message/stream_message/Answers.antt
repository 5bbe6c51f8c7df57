use Rattle.std.proofs.Common.{inl, inr, refl}
use Rattle.std.proofs.lemmas.Result.{IfOk-weaker}
use Rattle.leg_app_message.proofs.run_message.stream_message.Goals as goal

pub returns-in-Some : goal.returns-in-Some
returns-in-Some g c =
    IfOk-weaker c.parts_message.result _ _ (λ m is. (_, inl (_, _, c.in-Some.ensures.found, refl), is)) c.parts_message.ensures

pub returns-in-None : goal.returns-in-None
returns-in-None g c =
    IfOk-weaker c.parts_message-in-None.result _ _ (λ m is. (_, inr (c.in-None.ensures.none, refl), is)) c.parts_message-in-None.ensures
