use Rattle.std.proofs.Common.{◌≡◌, [], length}
use Rattle.leg_lex.specs.Until.{until}
use Rattle.leg_lex.specs.Statements.{at_end}
use Rattle.leg_grammar.specs.Def.Rule.{rule_entry}
use Rattle.leg_design_floorplan.proofs.rule.entries.Given as goal

abbrev pub invariant-entries : goal.invariant-entries
invariant-entries g l = until at_end (rule_entry l.library) l.rules l.words ≡ until at_end (rule_entry l.library) [] l.initial.words

abbrev pub decreases-entries : goal.decreases-entries
decreases-entries g l = length l.words
