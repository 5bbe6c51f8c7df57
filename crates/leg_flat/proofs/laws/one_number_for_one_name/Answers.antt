use Rattle.leg_flat.proofs.EntryNames.{one_number}
use Rattle.leg_flat.proofs.laws.one_number_for_one_name.Goals as goal

pub returns : goal.returns
returns c = one_number
