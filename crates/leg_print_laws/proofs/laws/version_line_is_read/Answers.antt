use Rattle.leg_print_laws.proofs.Forms.{version_line}
use Rattle.leg_print_laws.proofs.laws.version_line_is_read.Goals as goal

pub returns : goal.returns
returns c = λ parts. version_line parts
