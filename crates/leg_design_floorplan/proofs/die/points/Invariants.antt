use Rattle.std.proofs.Common.{◌≡◌, [], length}
use Rattle.leg_lex.specs.Until.{until}
use Rattle.leg_grammar.specs.Def.Die.{at_no_spot, one_spot}
use Rattle.leg_design_floorplan.proofs.die.points.Given as goal

abbrev pub invariant-points : goal.invariant-points
invariant-points g l = until at_no_spot one_spot l.points.items l.words ≡ until at_no_spot one_spot [] l.initial.words

abbrev pub decreases-points : goal.decreases-points
decreases-points g l = length l.words
