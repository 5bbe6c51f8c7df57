use Rattle.std.proofs.Common.{◌≡◌, length}
use Rattle.leg_lex.specs.Until.{until}
use Rattle.leg_lex.specs.Statements.{at_end}
use Rattle.leg_grammar.specs.Lef.Pin.{no_pin_parts, pin_part}
use Rattle.leg_lib.proofs.pin.all_parts.Given as goal

abbrev pub invariant-parts : goal.invariant-parts
invariant-parts g l =
    until at_end (pin_part l.fn.profile l.library) l.parts l.words ≡ until at_end (pin_part l.fn.profile l.library) no_pin_parts l.initial.words

abbrev pub decreases-parts : goal.decreases-parts
decreases-parts g l = length l.words
