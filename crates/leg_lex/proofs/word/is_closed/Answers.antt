use Rattle.std.proofs.Common.{rules, ◌∙◌}
use Rattle.leg_lex.proofs.OneWord.{closed_by_piece}
use Rattle.leg_lex.proofs.word.is_closed.Goals as goal

pub returns-in-34 : goal.returns-in-34
returns-in-34 c = c.eq.ensures ∙ closed_by_piece c.args.word.now c.quoted_len.result (search rules) c.quoted_len.ensures.ends c.quoted_len.ensures.within
