use Rattle.leg_print_laws.proofs.Entries.{net_said, special_said}
use Rattle.leg_print_laws.proofs.laws.net_entry_is_read.Goals as goal

pub returns-clause-special : goal.returns-clause-special
returns-clause-special c = λ design before after net sound well is one. special_said design sound well before after net is one

pub returns-clause-nets : goal.returns-clause-nets
returns-clause-nets c = λ design before after net sound well is one. net_said design sound well before after net is one
