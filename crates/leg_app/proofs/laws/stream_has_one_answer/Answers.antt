use Rattle.leg_app.proofs.OneStream.{one_stream_answer}
use Rattle.leg_app.proofs.laws.stream_has_one_answer.Goals as goal

pub returns : goal.returns
returns c = λ stream status other text words p q. one_stream_answer c.command_has_one_answer.ensures stream status other text words p q
