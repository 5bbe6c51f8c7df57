use Rattle.std.proofs.Common.{◌≡◌, drop}
use Rattle.leg_lex.specs.Until.{over}
use Rattle.leg_grammar.specs.Lef.Path.{line_to}
use Rattle.leg_lib.proofs.path.PathSoFar.lines_to.Given as goal

abbrev pub invariant-loop-point : goal.invariant-loop-point
invariant-loop-point g l =
    over (line_to l.fn.half) l.self (drop l.point-index l.points) ≡ over (line_to l.fn.half) l.initial.self l.points
