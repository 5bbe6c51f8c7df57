use Rattle.std.proofs.Common.{refl}
use Rattle.std.proofs.lemmas.Result.{err_from_is_err_and}
use Rattle.leg_grammar.specs.Lef.Macro.{macro_at}
use Rattle.leg_lib.proofs.macros.master.Goals as goal

pub returns-in_err-macro_parts : goal.returns-in_err-macro_parts
unfolding macro_at
returns-in_err-macro_parts g c =
    let p = err_from_is_err_and c.from_residual-in_err-macro_parts.result c.from_residual-in_err-macro_parts.ensures.1 in
    rw (p.1, p.2) (λ not_memory.
    let none = rw c.new-parts.ensures at c.in_err-macro_parts.ensures not_memory in
    rw (c.in_ok-keyword.ensures.reads, c.in_ok-name.ensures.reads, none) refl)
