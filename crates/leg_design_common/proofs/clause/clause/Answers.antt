use Rattle.leg_design_common.proofs.Clauses.{is_one}
use Rattle.leg_design_common.proofs.clause.clause.Goals as goal

pub returns-clause-means : goal.returns-clause-means
returns-clause-means c = is_one c.args.clause.now c.in_ok-word.field-0.now c.word.new.self (rw (← c.again.ensures) c.in_ok-word.ensures.reads)
