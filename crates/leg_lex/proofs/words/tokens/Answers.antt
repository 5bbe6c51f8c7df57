use Rattle.std.proofs.Common.{sym, ◌∙◌}
use Rattle.leg_lex.proofs.words.tokens.Goals as goal

pub returns-clause-only : goal.returns-clause-only
returns-clause-only g c = λ words are.
    rw (c.in_ok-tokens_at.ensures, c.deref.ensures.value) (c.in_ok-words.ensures.only words are ∙ sym c.words.view_is)
