use Rattle.leg_print_laws.proofs.Rows.{row_line}
use Rattle.leg_print_laws.proofs.laws.row_line_is_read.Goals as goal

pub returns : goal.returns
returns c = λ design row sound is one. row_line design row sound is one
