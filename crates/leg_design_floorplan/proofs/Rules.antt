-- Nondefault rules of a DEF: each entry takes a word, and a rule that is read has a new name.
use Rattle.std.proofs.Common.{◌≡◌, ◌<◌, List, [], ◌∷◌, length, None, Some, is_some, arith}
use Rattle.leg_lemmas.proofs.Options.{none_is}
use Rattle.leg_lex.specs.Words.{Words, mark_at, name_at, nothing_at}
use Rattle.leg_lex.specs.Until.{over}
use Rattle.leg_lex.specs.Statements.{clauses_of}
use Rattle.leg_lex.specs.NameLookup.{place_of}
use Rattle.leg_lex.proofs.Until.{Shortens, below_some, below_bind}
use Rattle.leg_lex.proofs.Statements.{statement_below}
use Rattle.leg_lib_records.specs.Records.{LibraryModel, RuleModel}
use Rattle.leg_grammar.specs.Def.Rule.{design_rule_names, rule_clause, rule_head, rule_in, with_rule, rule_entry}
use Rattle.leg_design_common.proofs.Gives.{Gives, gives_none, gives_some, gives_bind, gives_skip, unless_gives}

head_gives : (rules : List RuleModel) (head : Words) → Gives (λ name. place_of name (design_rule_names rules) ≡ None) (rule_head rules head)
unfolding rule_head
head_gives rules head =
    gives_skip (mark_at 45 head) (λ dash.
    gives_skip (name_at dash.1) (λ name.
    gives_bind (unless_gives (is_some (place_of name.0 (design_rule_names rules)))) (λ new is.
    gives_skip (nothing_at name.1) (λ end.
    gives_some name.0 (none_is (place_of name.0 (design_rule_names rules)) is)))))

rule_gives : (library : LibraryModel) (rules : List RuleModel) (parts : List Words)
    → Gives (λ rule. place_of rule.name (design_rule_names rules) ≡ None) (rule_in library rules parts)
unfolding rule_in
rule_gives library rules [] = gives_none
rule_gives library rules (head ∷ clauses) =
    gives_bind (head_gives rules head) (λ name new.
    gives_skip (over (rule_clause library) [] clauses) (λ widths.
    gives_some _ new))

pub rule_is_new : (library : LibraryModel) (rules : List RuleModel) (parts : List Words) (rule : RuleModel) → rule_in library rules parts ≡ Some rule
    → place_of rule.name (design_rule_names rules) ≡ None
rule_is_new library rules parts rule is = (rule_gives library rules parts).given rule is

pub rule_shortens : (library : LibraryModel) → Shortens (rule_entry library)
unfolding rule_entry
rule_shortens library rules words =
    below_bind (omega arith) (statement_below words) (λ statement less.
    below_some (with_rule rules (rule_in library rules (clauses_of statement.0))) statement.1 less)

pub rule_shorter : (library : LibraryModel) (rules more : List RuleModel) (words rest : Words) → rule_entry library rules words ≡ Some (more, rest)
    → length rest < length words
rule_shorter library rules more words rest said = (rule_shortens library rules words).left more rest said
