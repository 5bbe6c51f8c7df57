use Rattle.std.proofs.Common.{◌≡◌, ◌-◌, length, take}
use Rattle.std.specs.List.{list_any}
use Rattle.leg_lex.specs.Statements.{is_semicolon}
use Rattle.leg_drc_rules.proofs.statements.has_semicolon.Given as goal

abbrev pub invariant-words : goal.invariant-words
invariant-words l =
    list_any is_semicolon (take (length l.words - l.left) l.words) ≡ list_any is_semicolon (take (length l.initial.words - l.left) l.initial.words)

abbrev pub decreases-words : goal.decreases-words
decreases-words l = length l.words
