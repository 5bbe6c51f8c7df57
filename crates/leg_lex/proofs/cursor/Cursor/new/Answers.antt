use Rattle.leg_lex.proofs.WordsAt.{texts_at}
use Rattle.leg_lex.proofs.cursor.Cursor.new.Goals as goal

pub returns : goal.returns
returns g c = rw (← c.words.view_is, c.as_slice-places.ensures.value) (texts_at _ _)
