use Rattle.std.proofs.Common.{◌≡◌, [], length}
use Rattle.leg_lex.specs.Until.{until}
use Rattle.leg_lex.specs.Statements.{at_end}
use Rattle.leg_grammar.specs.Lef.Rule.{rule_parts, rule_part}
use Rattle.leg_lib.proofs.rule.parts.Given as goal

abbrev pub invariant-parts : goal.invariant-parts
invariant-parts g l =
    until at_end (rule_part l.fn.profile) (rule_parts l.library l.widths) l.words ≡
    until at_end (rule_part l.fn.profile) (rule_parts l.initial.library []) l.initial.words

abbrev pub decreases-parts : goal.decreases-parts
decreases-parts g l = length l.words
