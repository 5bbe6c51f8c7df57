use Rattle.leg_print_laws.proofs.Entries.{pin_said}
use Rattle.leg_print_laws.proofs.laws.pin_entry_is_read.Goals as goal

pub returns : goal.returns
returns c = λ design before after pin sound well is one. pin_said design sound well before after pin is one
