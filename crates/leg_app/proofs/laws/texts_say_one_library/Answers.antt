use Rattle.leg_app.proofs.OneAnswer.{one_library_said}
use Rattle.leg_app.proofs.laws.texts_say_one_library.Goals as goal

pub returns : goal.returns
returns c = λ profile lefs def. one_library_said profile lefs def c.texts_say_one_library.ensures c.one_library_at_units.ensures
