use Rattle.leg_print_laws.proofs.Entries.{component_said}
use Rattle.leg_print_laws.proofs.laws.component_entry_is_read.Goals as goal

pub returns : goal.returns
returns c = λ design before after component sound well is one. component_said design sound well before after component is one
