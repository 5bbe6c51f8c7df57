use Rattle.leg_print_laws.proofs.Sections.{start_line, end_line}
use Rattle.leg_print_laws.proofs.laws.section_lines_are_read.Goals as goal

pub returns-clause-first : goal.returns-clause-first
returns-clause-first c = λ keyword count name one few. start_line keyword count name one few

pub returns-clause-last : goal.returns-clause-last
returns-clause-last c = λ keyword name one. end_line keyword name one
