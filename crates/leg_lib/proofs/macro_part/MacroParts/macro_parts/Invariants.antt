use Rattle.std.proofs.Common.{◌≡◌, length}
use Rattle.leg_lex.specs.Until.{until}
use Rattle.leg_lex.specs.Statements.{at_end}
use Rattle.leg_grammar.specs.Lef.Macro.{macro_part}
use Rattle.leg_lib.proofs.macro_part.MacroParts.macro_parts.Given as goal

abbrev pub invariant-parts : goal.invariant-parts
invariant-parts g l =
    until at_end (macro_part l.fn.profile l.library) l.self l.words ≡ until at_end (macro_part l.fn.profile l.library) l.initial.self l.initial.words

abbrev pub decreases-parts : goal.decreases-parts
decreases-parts g l = length l.words
