use Rattle.std.proofs.lemmas.Result.{err_from_is_err_and}
use Rattle.leg_design.proofs.Forms.{no_end, more_after}
use Rattle.leg_design.proofs.form.design_fields.Goals as goal

pub returns-in_err-end-clause-design : goal.returns-in_err-end-clause-design
returns-in_err-end-clause-design g c =
    let p = err_from_is_err_and c.from_residual-in_err-end.result c.from_residual-in_err-end.ensures.1 in
    rw (p.1, p.2) (λ not_memory. no_end c.args.profile c.args.library.now _ c.args.words.now c.forms.new.words c.in_ok-parts.ensures
    (c.in_err-end.ensures.reads not_memory))

pub returns-in_err-nothing_more-clause-design : goal.returns-in_err-nothing_more-clause-design
returns-in_err-nothing_more-clause-design g c =
    let p = err_from_is_err_and c.from_residual-in_err-nothing_more.result c.from_residual-in_err-nothing_more.ensures.1 in
    rw (p.1, p.2) (λ not_memory. more_after c.args.profile c.args.library.now _ c.args.words.now c.forms.new.words c.end.new.self c.in_ok-parts.ensures
    c.in_ok-end.ensures.reads (c.in_err-nothing_more.ensures.means not_memory))
