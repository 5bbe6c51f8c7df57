use Rattle.std.proofs.Common.{◌≡◌, length}
use Rattle.leg_lex.specs.Until.{until}
use Rattle.leg_grammar.specs.Lef.Form.{lef_form_at, at_last}
use Rattle.leg_lib.proofs.form.forms.Given as goal

abbrev pub invariant-forms : goal.invariant-forms
invariant-forms g l = until at_last lef_form_at l.parts l.words ≡ until at_last lef_form_at l.initial.parts l.initial.words

abbrev pub decreases-forms : goal.decreases-forms
decreases-forms g l = length l.words
