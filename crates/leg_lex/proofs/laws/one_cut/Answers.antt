use Rattle.leg_lex.proofs.Cuts.{cut_same}
use Rattle.leg_lex.proofs.laws.one_cut.Goals as goal

pub returns : goal.returns
returns c = cut_same
