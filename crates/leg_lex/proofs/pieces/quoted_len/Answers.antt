use Rattle.leg_lex.proofs.Quotes.{never_ends}
use Rattle.leg_lex.proofs.pieces.quoted_len.Goals as goal

pub returns-clause-ends : goal.returns-clause-ends
returns-clause-ends c = never_ends c.args.text.now c.quotes.from c.requires c.quotes.invariant.escaped c.in_default.ensures
