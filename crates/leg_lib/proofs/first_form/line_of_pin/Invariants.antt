use Rattle.std.proofs.Common.{length}
use Rattle.leg_lib.proofs.first_form.line_of_pin.Given as goal

abbrev pub decreases-parts : goal.decreases-parts
decreases-parts g l = length l.words
