use Rattle.std.proofs.Common.{◌≡◌, length}
use Rattle.leg_lex.specs.Until.{until}
use Rattle.leg_grammar.specs.Def.Blockage.{at_semicolon, one_area}
use Rattle.leg_design_floorplan.proofs.blockage.more_areas.Given as goal

abbrev pub invariant-areas : goal.invariant-areas
invariant-areas g l =
    until at_semicolon (one_area l.fn.profile) l.rects.items l.words
    ≡ until at_semicolon (one_area l.fn.profile) l.initial.rects.items l.initial.words

abbrev pub decreases-areas : goal.decreases-areas
decreases-areas g l = length l.words
