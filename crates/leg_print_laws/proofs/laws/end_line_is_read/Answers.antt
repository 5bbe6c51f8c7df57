use Rattle.leg_print_laws.proofs.Sections.{design_end_line}
use Rattle.leg_print_laws.proofs.laws.end_line_is_read.Goals as goal

pub returns : goal.returns
returns c = design_end_line
