use Rattle.leg_drc_rules.proofs.Scaling.{one_deck}
use Rattle.leg_drc_rules.proofs.laws.one_deck_at_units.Goals as goal

pub returns : goal.returns
returns c = one_deck
