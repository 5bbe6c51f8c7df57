use Rattle.leg_print_laws.proofs.HeaderLines.{units_line}
use Rattle.leg_print_laws.proofs.laws.units_line_is_read.Goals as goal

pub returns : goal.returns
returns c = λ n some most. units_line n some most
