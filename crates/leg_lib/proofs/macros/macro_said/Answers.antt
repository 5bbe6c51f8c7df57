use Rattle.std.proofs.Common.{refl}
use Rattle.std.proofs.lemmas.Result.{err_from_is_err_and}
use Rattle.leg_grammar.specs.Lef.Macro.{macro_said}
use Rattle.leg_lib.proofs.macros.macro_said.Goals as goal

pub returns-in_err-size : goal.returns-in_err-size
unfolding macro_said
returns-in_err-size g c =
    let p = err_from_is_err_and c.from_residual-in_err-size.result c.from_residual-in_err-size.ensures.1 in
    rw (p.1, p.2) (λ not_memory. rw (c.in_ok-of_size.ensures.means, c.in_err-size.ensures not_memory) refl)

pub returns-in_err-site : goal.returns-in_err-site
unfolding macro_said
returns-in_err-site g c =
    let p = err_from_is_err_and c.from_residual-in_err-site.result c.from_residual-in_err-site.ensures.1 in
    rw (p.1, p.2) (λ not_memory. rw (
      c.in_ok-of_size.ensures.means,
      c.in_ok-size.ensures,
      c.in_ok-only.ensures.means,
      c.in_ok-origin.ensures,
      c.in_ok-only-2.ensures.means,
      c.in_ok-y_symmetric.ensures,
      c.in_ok-site_statement.ensures,
      c.in_err-site.ensures not_memory,
    ) refl)

pub returns : goal.returns
unfolding macro_said
returns g c =
    rw (
      c.in_ok-of_size.ensures.means,
      c.in_ok-size.ensures,
      c.in_ok-only.ensures.means,
      c.in_ok-origin.ensures,
      c.in_ok-only-2.ensures.means,
      c.in_ok-y_symmetric.ensures,
      c.in_ok-site_statement.ensures,
      c.in_ok-site.ensures,
    ) refl
