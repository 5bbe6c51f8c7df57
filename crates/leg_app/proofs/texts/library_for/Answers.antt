use Rattle.std.proofs.lemmas.Result.{err_from_is_err_and}
use Rattle.std.proofs.Common.{◌∙◌}
use Rattle.leg_lex.proofs.Denotations.{says_nothing}
use Rattle.leg_grammar.specs.Def.Header.{units_in}
use Rattle.leg_app.proofs.Denotations.{no_units, no_scaled, only_scaled}
use Rattle.leg_app.proofs.texts.library_for.Goals as goal

pub returns-in-Err-clause-none : goal.returns-in-Err-clause-none
returns-in-Err-clause-none g c =
    λ not_memory. no_units _ _ _ (says_nothing units_in c.args.def.now (c.in-Err.ensures.none (λ is. not_memory (c.behind_lefs.ensures.kind ∙ is))))

pub returns-in-Err-units-clause-none : goal.returns-in-Err-units-clause-none
returns-in-Err-units-clause-none g c =
    let none = rw c.in-Ok.ensures.is at c.in-Err-units.ensures.none in
    λ not_memory. no_units _ _ _ (none (λ is. not_memory (c.behind_lefs-in-Err-units.ensures.kind ∙ is)))

pub returns-clause-none : goal.returns-clause-none
returns-clause-none g c =
    let only = rw c.in-Ok.ensures.is at c.in-Ok-units.ensures.only in
    λ not_memory. no_scaled _ _ _ c.in_ok-raw.raw c.in_ok-raw.ensures.only c.in-Ok-units.n only (c.in-Err-at.ensures.none not_memory)

pub returns-in-Ok-at-clause-only : goal.returns-in-Ok-at-clause-only
returns-in-Ok-at-clause-only g c =
    let only = rw c.in-Ok.ensures.is at c.in-Ok-units.ensures.only in
    only_scaled _ _ _ c.in_ok-raw.raw c.in_ok-raw.ensures.only c.in-Ok-units.n only c.in-Ok-at.library c.in-Ok-at.ensures.only

pub returns-in_err-raw-clause-none : goal.returns-in_err-raw-clause-none
returns-in_err-raw-clause-none g c =
    let p = err_from_is_err_and c.from_residual.result c.from_residual.ensures.1 in
    rw (p.1, p.2) (λ not_memory library say. c.in_err-raw.ensures.none not_memory say.raw say.lef)
