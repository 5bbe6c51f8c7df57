use Rattle.leg_print_laws.proofs.Whole.{text_says, text_says_units}
use Rattle.leg_print_laws.proofs.laws.printed_text_says_its_design.Goals as goal

pub returns-clause-design : goal.returns-clause-design
returns-clause-design c = text_says

pub returns-clause-units : goal.returns-clause-units
returns-clause-units c = text_says_units
