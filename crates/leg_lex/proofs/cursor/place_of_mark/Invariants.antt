use Rattle.leg_lex.specs.WordPlaces.{bytes_at}
use Rattle.leg_lex.proofs.Marks.{NoneBefore}
use Rattle.leg_lex.proofs.cursor.place_of_mark.Given as goal

abbrev pub invariant-loop-i : goal.invariant-loop-i
invariant-loop-i l = NoneBefore (bytes_at l.text) l.mark l.i l.words
