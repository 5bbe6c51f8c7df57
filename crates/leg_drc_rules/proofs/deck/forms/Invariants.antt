use Rattle.std.proofs.Common.{◌≡◌, length, drop}
use Rattle.leg_lex.specs.Until.{until}
use Rattle.leg_drc_rules.specs.Table.{at_no_word}
use Rattle.leg_drc_rules.specs.Deck.{form_at}
use Rattle.leg_drc_rules.specs.Steps.Memory.{AreBehindEnd}
use Rattle.leg_drc_rules.proofs.deck.forms.Given as goal

abbrev pub invariant-forms : goal.invariant-forms
invariant-forms g l = record {
  same : until at_no_word (form_at l.library) l.deck l.words ≡ until at_no_word (form_at l.library) l.initial.deck l.initial.words;
  kept : AreBehindEnd (drop 2 l.words) l.behind;
}

abbrev pub decreases-forms : goal.decreases-forms
decreases-forms g l = length l.words
