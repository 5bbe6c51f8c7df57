use Rattle.std.proofs.Common.{◌≡◌, length}
use Rattle.leg_lex.specs.Until.{until}
use Rattle.leg_lex.specs.Statements.{at_end}
use Rattle.leg_grammar.specs.Def.TurnedVia.{turn_of_word}
use Rattle.leg_design_floorplan.proofs.turned_via.TurnedVias.add_all.Given as goal

abbrev pub invariant-words : goal.invariant-words
invariant-words g l =
    until at_end (turn_of_word l.library) l.self l.words ≡ until at_end (turn_of_word l.library) l.initial.self l.initial.words

abbrev pub decreases-words : goal.decreases-words
decreases-words g l = length l.words
