use Rattle.std.proofs.Common.{refl}
use Rattle.std.proofs.lemmas.Result.{err_from_is_err_and}
use Rattle.leg_grammar.specs.Def.Section.{section_at}
use Rattle.leg_grammar.specs.Def.Rule.{rules_at}
use Rattle.leg_design_floorplan.proofs.rule.rules.Goals as goal

pub returns-in_err-end : goal.returns-in_err-end
unfolding rules_at section_at
returns-in_err-end g c =
    let p = err_from_is_err_and c.from_residual-in_err-end.result c.from_residual-in_err-end.ensures.1 in
    rw (p.1, p.2) (λ not_memory. rw (c.in_ok-section_start.ensures.reads, c.in_ok-rules.ensures, c.in_err-end.ensures.reads not_memory) refl)

pub returns : goal.returns
unfolding rules_at section_at
returns g c = rw (c.in_ok-section_start.ensures.reads, c.in_ok-rules.ensures, c.in_ok-end.ensures.reads) refl
