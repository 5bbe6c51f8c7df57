use Rattle.std.proofs.Common.{sym, ◌∙◌}
use Rattle.leg_lex.specs.Words.{end_at}
use Rattle.leg_lex.proofs.ReadPast.{past_here}
use Rattle.leg_lex.proofs.cursor.Cursor.past_end.Goals as goal

pub returns-clause-reads : goal.returns-clause-reads
returns-clause-reads c =
    let here = past_here (end_at c.args.keyword.now) c.words.self (sym c.is_at_end_keyword.ensures ∙ c.words-test.false) in
    rw (sym c.words.invariant ∙ here) c.end.ensures.reads
