use Rattle.leg_lex.proofs.TextWords.{texts_have_words}
use Rattle.leg_lex.proofs.laws.texts_have_words.Goals as goal

pub returns : goal.returns
returns c = texts_have_words
