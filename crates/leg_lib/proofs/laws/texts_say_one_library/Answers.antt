use Rattle.leg_lib.proofs.Readings.{library_one}
use Rattle.leg_lib.proofs.laws.texts_say_one_library.Goals as goal

pub returns : goal.returns
returns c = library_one
