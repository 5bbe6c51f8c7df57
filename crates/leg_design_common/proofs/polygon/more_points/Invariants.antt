use Rattle.std.proofs.Common.{◌≡◌, length}
use Rattle.leg_lex.specs.Until.{until}
use Rattle.leg_grammar.specs.Def.Polygon.{at_no_point, one_point}
use Rattle.leg_design_common.proofs.polygon.more_points.Given as goal

abbrev pub invariant-points : goal.invariant-points
invariant-points g l =
    until at_no_point one_point (l.points.items, l.last) l.words
    ≡ until at_no_point one_point (l.initial.points.items, l.initial.last) l.initial.words

abbrev pub decreases-points : goal.decreases-points
decreases-points g l = length l.words
