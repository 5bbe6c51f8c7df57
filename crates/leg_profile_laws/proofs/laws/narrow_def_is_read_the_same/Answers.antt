use Rattle.leg_profile_laws.proofs.SameDesign.{design_same, design_only}
use Rattle.leg_profile_laws.proofs.laws.narrow_def_is_read_the_same.Goals as goal

pub returns-clause-design : goal.returns-clause-design
returns-clause-design c = λ profile library def design says. design_same profile library def design says

pub returns-clause-same : goal.returns-clause-same
returns-clause-same c = λ profile library def design other says said. design_only profile library def design says other said
