use Rattle.std.proofs.lemmas.Result.{err_from_is_err_and}
use Rattle.leg_grammar.specs.Def.Parts.{no_parts}
use Rattle.leg_design.proofs.Forms.{forms_failed}
use Rattle.leg_design.proofs.form.forms.Goals as goal

pub returns-in_err-form : goal.returns-in_err-form
returns-in_err-form g c =
    let p = err_from_is_err_and c.from_residual.result c.from_residual.ensures.1 in
    rw (p.1, p.2) (λ not_memory. forms_failed (no_parts c.args.profile c.args.library.now) c.forms.parts c.args.words.now c.forms.words c.is_at.result
    c.forms.invariant
    (c.in_err-form.ensures not_memory) c.is_at.ensures c.forms-test.true)
