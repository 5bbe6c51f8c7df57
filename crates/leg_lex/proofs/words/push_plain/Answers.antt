use Rattle.leg_lex.proofs.WordsAt.{two_words, then_adds}
use Rattle.leg_lex.proofs.words.push_plain.Goals as goal

pub returns-in_ok-push_word-clause-pushed : goal.returns-in_ok-push_word-clause-pushed
returns-in_ok-push_word-clause-pushed g c =
    rw (two_words c.args.text.now c.args.start c.args.end c.args.line c.if-end-start-gt1.true c.requires.within c.if-text-end-eq59.true)
    (then_adds c.args.text.now _ _ _ _ _ _ c.in_ok-push_word.ensures.pushed c.push_word-then-text-end-eq59.ensures.pushed)
