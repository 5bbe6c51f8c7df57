use Rattle.leg_legal.proofs.OneOutcome.{one_list_of_moves}
use Rattle.leg_legal.proofs.laws.moves_are_determined.Goals as goal

pub returns : goal.returns
returns c = λ before after each others total sum greatest most count are also. one_list_of_moves before after count each others total sum greatest most are also
