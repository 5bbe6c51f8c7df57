use Rattle.leg_sweep.proofs.PairLists.{count_is_length}
use Rattle.leg_sweep.proofs.laws.counts_are_lengths.Goals as goal

pub returns : goal.returns
returns c = count_is_length
