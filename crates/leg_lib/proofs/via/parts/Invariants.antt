use Rattle.std.proofs.Common.{◌≡◌, drop}
use Rattle.leg_lex.specs.Until.{over}
use Rattle.leg_grammar.specs.Lef.Via.{no_via_parts, via_part}
use Rattle.leg_lib.proofs.via.parts.Given as goal

abbrev pub invariant-loop-statement : goal.invariant-loop-statement
invariant-loop-statement g l =
    over (via_part l.fn.profile l.library) l.parts (drop l.statement-index l.statements) ≡ over (via_part l.fn.profile l.library) no_via_parts l.statements
