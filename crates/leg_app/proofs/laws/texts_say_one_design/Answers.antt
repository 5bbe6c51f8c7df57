use Rattle.leg_app.proofs.OneAnswer.{one_design_said}
use Rattle.leg_app.proofs.laws.texts_say_one_design.Goals as goal

pub returns : goal.returns
returns c = λ profile lefs def. one_design_said profile lefs def (c.texts_say_one_library.ensures profile lefs def)
