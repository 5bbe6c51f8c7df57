use Rattle.leg_lex.proofs.OneWord.{plain_is_piece, closed_is_piece}
use Rattle.leg_lex.proofs.laws.words_are_pieces.Goals as goal

pub returns-clause-plain : goal.returns-clause-plain
returns-clause-plain c = plain_is_piece

pub returns-clause-quoted : goal.returns-clause-quoted
returns-clause-quoted c = closed_is_piece
