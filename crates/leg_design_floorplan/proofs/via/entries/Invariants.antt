use Rattle.std.proofs.Common.{◌≡◌, [], length}
use Rattle.leg_lex.specs.Until.{until}
use Rattle.leg_lex.specs.Statements.{at_end}
use Rattle.leg_grammar.specs.Def.Via.{via_entry}
use Rattle.leg_design_floorplan.proofs.via.entries.Given as goal

abbrev pub invariant-entries : goal.invariant-entries
invariant-entries g l =
    until at_end (via_entry l.profile l.library) l.vias l.words ≡ until at_end (via_entry l.profile l.library) [] l.initial.words

abbrev pub decreases-entries : goal.decreases-entries
decreases-entries g l = length l.words
