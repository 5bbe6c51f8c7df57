use Rattle.leg_grammar.specs.Def.Port.{past_rules}
use Rattle.leg_design_floorplan.proofs.port.past_rules.Goals as goal

pub returns : goal.returns
unfolding past_rules
returns c = rw c.in_ok-past_number.ensures c.past_number-2.ensures
