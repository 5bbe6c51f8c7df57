use Rattle.leg_print_words.proofs.Numbers.{number_word}
use Rattle.leg_print_words.proofs.laws.numbers_are_read_back.Goals as goal

pub returns-clause-name : goal.returns-clause-name
returns-clause-name c = λ z is. (number_word z is).name

pub returns-clause-printable : goal.returns-clause-printable
returns-clause-printable c = λ z is. (number_word z is).printable

pub returns-clause-back : goal.returns-clause-back
returns-clause-back c = λ z is. (number_word z is).back
