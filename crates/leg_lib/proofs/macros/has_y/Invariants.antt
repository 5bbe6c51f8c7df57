use Rattle.std.proofs.Common.{◌≡◌, false, length}
use Rattle.leg_lib.proofs.MacroForms.{with_y}
use Rattle.leg_lib.proofs.macros.has_y.Given as goal

abbrev pub invariant-words : goal.invariant-words
invariant-words l = with_y l.found l.words ≡ with_y false l.initial.words

abbrev pub decreases-words : goal.decreases-words
decreases-words l = length l.words
