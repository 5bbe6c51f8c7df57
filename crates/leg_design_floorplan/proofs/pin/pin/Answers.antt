use Rattle.std.proofs.lemmas.Result.{err_from_is_err_and}
use Rattle.leg_design_floorplan.proofs.pin.pin.Goals as goal

pub returns-in_err-close : goal.returns-in_err-close
returns-in_err-close g c =
    let p = err_from_is_err_and c.from_residual-in_err-close.result c.from_residual-in_err-close.ensures.1 in
    rw p.1 (λ not_memory. absurd (not_memory p.2))
