use Rattle.leg_print_laws.proofs.HeaderLines.{die_line}
use Rattle.leg_print_laws.proofs.laws.die_line_is_read.Goals as goal

pub returns : goal.returns
returns c = λ die is. die_line die is
