use Rattle.std.proofs.Common.{refl}
use Rattle.std.proofs.lemmas.Result.{err_from_is_err_and}
use Rattle.leg_grammar.specs.Lef.Rule.{with_rule}
use Rattle.leg_lib.proofs.SoundNames.{name_gives}
use Rattle.leg_lib.proofs.SoundRules.{parts_sound}
use Rattle.leg_lib.proofs.rule.rule_form.Goals as goal

pub returns-in_err-widths : goal.returns-in_err-widths
unfolding with_rule
returns-in_err-widths g c =
    let p = err_from_is_err_and c.from_residual-in_err-widths.result c.from_residual-in_err-widths.ensures.1 in
    rw (p.1, p.2) (λ not_memory. rw (c.in_ok-keyword.ensures.reads, c.in_ok-name.ensures.reads, c.in_err-widths.ensures not_memory) refl)

pub returns-in_err-end_of : goal.returns-in_err-end_of
unfolding with_rule
returns-in_err-end_of g c =
    let p = err_from_is_err_and c.from_residual-in_err-end_of.result c.from_residual-in_err-end_of.ensures.1 in
    rw (p.1, p.2) (λ not_memory. rw (
      c.in_ok-keyword.ensures.reads,
      c.in_ok-name.ensures.reads,
      c.in_ok-widths.ensures,
      c.in_err-end_of.ensures.reads not_memory,
    ) refl)

pub push_rule-requires-clause-named : goal.push_rule-requires-clause-named
push_rule-requires-clause-named g c =
    rw c.new.ensures ((name_gives c.keyword.new.self).given (c.in_ok-name.name.now, c.name.new.self) c.in_ok-name.ensures.reads)

pub push_rule-requires-clause-sound : goal.push_rule-requires-clause-sound
push_rule-requires-clause-sound g c = (parts_sound c.args.profile c.args.library.now c.name.new.self _ _ c.in_ok-widths.ensures).wide

pub push_rule-requires-clause-refers : goal.push_rule-requires-clause-refers
push_rule-requires-clause-refers g c = (parts_sound c.args.profile c.args.library.now c.name.new.self _ _ c.in_ok-widths.ensures).on
