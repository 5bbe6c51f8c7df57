use Rattle.std.proofs.Common.{refl}
use Rattle.std.proofs.lemmas.Result.{err_from_is_err_and}
use Rattle.leg_app.specs.declared.status.Status.TheVariants.{Memory}
use Rattle.leg_output.specs.Commands.Check.{memory_text}
use Rattle.leg_app.proofs.run_command.run_explained_as.Goals as goal

pub returns-in_err-status-in-Err-clause-cut : goal.returns-in_err-status-in-Err-clause-cut
returns-in_err-status-in-Err-clause-cut g c =
    let err = err_from_is_err_and c.from_residual-in_err-status-in-Err.result c.from_residual-in_err-status-in-Err.ensures.1 in
    rw err.1 (record { status = Memory; text = memory_text; answer = refl; front = c.in_err-status-in-Err.ensures.cut })
