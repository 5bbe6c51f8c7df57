use Rattle.leg_app.proofs.OneAnswer.{one_answer}
use Rattle.leg_app.proofs.laws.command_has_one_answer.Goals as goal

pub returns : goal.returns
returns c =
    λ command profile lefs def status other text words p q first second third. one_answer command profile lefs def
    (c.texts_say_one_design.ensures profile lefs def) first second third status other text words p q
