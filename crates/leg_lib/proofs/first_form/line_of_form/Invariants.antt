use Rattle.std.proofs.Common.{length}
use Rattle.leg_lib.proofs.first_form.line_of_form.Given as goal

abbrev pub decreases-forms : goal.decreases-forms
decreases-forms g l = length l.words
