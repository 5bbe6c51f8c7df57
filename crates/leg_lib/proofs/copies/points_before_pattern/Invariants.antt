use Rattle.std.proofs.Common.{◌≡◌, length}
use Rattle.leg_lex.specs.Until.{until}
use Rattle.leg_grammar.specs.Lef.Copies.{at_pattern}
use Rattle.leg_grammar.specs.Lef.Polygon.{one_point}
use Rattle.leg_lib.proofs.copies.points_before_pattern.Given as goal

abbrev pub invariant-points : goal.invariant-points
invariant-points g l = until at_pattern one_point l.points.items l.words ≡ until at_pattern one_point l.initial.points.items l.initial.words

abbrev pub decreases-points : goal.decreases-points
decreases-points g l = length l.words
