use Rattle.leg_print.proofs.TerminalCentres.{no_centre, centre_least}
use Rattle.leg_print.proofs.wirelength.terminal_centre.Goals as goal

pub returns-in_err-bounds : goal.returns-in_err-bounds
returns-in_err-bounds g c = rw c.from_residual.ensures (no_centre c.args.design.now c.args.terminal.now c.in_err-bounds.ensures)

pub returns : goal.returns
returns g c = centre_least c.args.design.now c.args.terminal.now c.in_ok-bounds.bounds c.centre.result c.in_ok-bounds.ensures c.centre.ensures
