use Rattle.leg_print_laws.proofs.HeaderLines.{name_line}
use Rattle.leg_print_laws.proofs.laws.name_line_is_read.Goals as goal

pub returns : goal.returns
returns c = λ name is one. name_line name is one
