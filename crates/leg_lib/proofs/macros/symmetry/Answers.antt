use Rattle.std.proofs.Common.{None}
use Rattle.std.proofs.lemmas.Result.{err_from_is_err_and}
use Rattle.leg_lib.proofs.MacroForms.{symmetry_said}
use Rattle.leg_lib.proofs.macros.symmetry.Goals as goal

pub returns-in_err-with_y : goal.returns-in_err-with_y
returns-in_err-with_y c =
    let p = err_from_is_err_and c.from_residual-in_err-with_y.result c.from_residual-in_err-with_y.ensures.1 in
    rw (p.1, p.2) (λ not_memory. symmetry_said c.args.statement.now c.keyword.new.self c.in_ok-keyword.field-0 c.in_ok-word.field-0.now c.word.new.self None
    c.in_ok-keyword.ensures.reads c.in_ok-word.ensures.reads (rw c.again-all.ensures at c.in_err-with_y.ensures not_memory))
