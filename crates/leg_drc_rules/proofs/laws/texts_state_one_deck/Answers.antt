use Rattle.leg_drc_rules.specs.Deck.{no_deck}
use Rattle.leg_drc_rules.proofs.Readings.{extend_one}
use Rattle.leg_drc_rules.proofs.laws.texts_state_one_deck.Goals as goal

pub returns : goal.returns
returns c = λ library lefs a b p q. extend_one library lefs (no_deck library) a b p q
