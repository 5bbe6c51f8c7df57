use Rattle.std.proofs.Common.{◌≡◌, drop}
use Rattle.leg_lex.specs.Until.{over}
use Rattle.leg_grammar.specs.Lef.Geometry.{geometry_part}
use Rattle.leg_lib.proofs.geometry.Drawing.draw_all.Given as goal

abbrev pub invariant-loop-statement : goal.invariant-loop-statement
invariant-loop-statement g l =
    over (geometry_part l.fn.profile l.library) l.self (drop l.statement-index l.statements)
    ≡ over (geometry_part l.fn.profile l.library) l.initial.self l.statements
