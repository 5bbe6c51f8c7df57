use Rattle.leg_app.proofs.OneAnswer.{one_list_of_texts}
use Rattle.leg_app.proofs.laws.texts_have_one_list.Goals as goal

pub returns : goal.returns
returns c = λ profile lefs def. one_list_of_texts profile lefs def (c.texts_say_one_design.ensures profile lefs def)
