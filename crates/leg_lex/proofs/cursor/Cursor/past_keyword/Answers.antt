use Rattle.std.proofs.Common.{sym, ◌∙◌}
use Rattle.leg_lex.proofs.ReadPast.{keyword_here}
use Rattle.leg_lex.proofs.cursor.Cursor.past_keyword.Goals as goal

pub returns-clause-reads : goal.returns-clause-reads
returns-clause-reads c =
    let here = keyword_here c.args.keyword.now c.words.self (sym c.is_at.ensures ∙ c.words-test.false) in
    rw (sym c.words.invariant ∙ here) c.keyword.ensures.reads
