use Rattle.std.proofs.lemmas.Result.{err_from_is_err_and}
use Rattle.leg_lex.proofs.Denotations.{says_nothing}
use Rattle.leg_grammar.specs.Def.Form.{design_in}
use Rattle.leg_design.proofs.read.read_def_as.Goals as goal

pub returns-in_err-def-clause-none : goal.returns-in_err-def-clause-none
returns-in_err-def-clause-none g c =
    let p = err_from_is_err_and c.from_residual.result c.from_residual.ensures.1 in
    rw (p.1, p.2) (λ not_memory. says_nothing (design_in c.args.profile c.args.library.now) c.args.text.now (c.in_err-def.ensures.none not_memory))

pub returns-clause-only : goal.returns-clause-only
returns-clause-only g c = rw c.in_ok-def.ensures.is at c.design_as.ensures.only

pub returns-clause-none : goal.returns-clause-none
returns-clause-none g c = rw c.in_ok-def.ensures.is at c.design_as.ensures.none
