use Rattle.leg_print_laws.proofs.Entries.{via_said}
use Rattle.leg_print_laws.proofs.laws.via_entry_is_read.Goals as goal

pub returns : goal.returns
returns c = λ design before after via sound well is one. via_said design sound well before after via is one
