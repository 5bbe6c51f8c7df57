use Rattle.leg_print_laws.proofs.Whole.{words_say}
use Rattle.leg_print_laws.proofs.laws.printed_words_say_their_design.Goals as goal

pub returns : goal.returns
returns c = words_say
