use Rattle.leg_print_laws.proofs.Entries.{blockage_entry_said}
use Rattle.leg_print_laws.proofs.laws.blockage_entry_is_read.Goals as goal

pub returns : goal.returns
returns c = λ design before after blockage sound well is one. blockage_entry_said design sound well before after blockage is one
