use Rattle.std.proofs.Common.{◌≡◌, length}
use Rattle.leg_lex.specs.Until.{until}
use Rattle.leg_lex.specs.Statements.{at_end}
use Rattle.leg_grammar.specs.Def.Parts.{no_parts}
use Rattle.leg_grammar.specs.Def.Form.{def_form_at}
use Rattle.leg_design.proofs.form.forms.Given as goal

abbrev pub invariant-forms : goal.invariant-forms
invariant-forms g l =
    until at_end def_form_at l.parts l.words ≡ until at_end def_form_at (no_parts l.fn.profile l.library) l.initial.words

abbrev pub decreases-forms : goal.decreases-forms
decreases-forms g l = length l.words
