use Rattle.std.proofs.Common.{◌≡◌, length}
use Rattle.leg_lex.specs.Until.{until}
use Rattle.leg_grammar.specs.Def.SpecialVia.{at_no_spot, via_spot}
use Rattle.leg_design_wires.proofs.special_via.via_spots.Given as goal

abbrev pub invariant-spots : goal.invariant-spots
invariant-spots g l =
    until at_no_spot (via_spot l.via) l.wires.items l.words ≡ until at_no_spot (via_spot l.via) l.initial.wires.items l.initial.words

abbrev pub decreases-spots : goal.decreases-spots
decreases-spots g l = length l.words
