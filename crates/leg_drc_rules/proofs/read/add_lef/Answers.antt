use Rattle.std.proofs.lemmas.Result.{err_from_is_err_and}
use Rattle.leg_drc_rules.specs.Deck.{deck_in}
use Rattle.leg_lex.proofs.Denotations.{says_nothing, means_only, means_none}
use Rattle.leg_drc_rules.proofs.Readings.{refused_text, refused_words}
use Rattle.leg_drc_rules.proofs.read.add_lef.Goals as goal

pub returns-in_err-words-clause-none : goal.returns-in_err-words-clause-none
returns-in_err-words-clause-none g c =
    let p = err_from_is_err_and c.from_residual.result c.from_residual.ensures.1 in
    rw (p.1, p.2) (λ not_memory. says_nothing (deck_in c.args.library.now c.args.deck.now) c.args.text.now (c.in_err-words.ensures.none not_memory))

pub returns-in_err-words-clause-refused : goal.returns-in_err-words-clause-refused
returns-in_err-words-clause-refused g c =
    let p = err_from_is_err_and c.from_residual.result c.from_residual.ensures.1 in
    rw (p.1, p.2) (refused_text _ c.args.text.now c.in_err-words.ensures.none)

pub returns-clause-only : goal.returns-clause-only
returns-clause-only g c =
    means_only (deck_in c.args.library.now c.args.deck.now) c.args.text.now c.in_ok-words.words c.deck_words.result c.deck_words.new.deck
    c.in_ok-words.ensures.found
    (rw c.new.ensures at c.deck_words.ensures.means)

pub returns-clause-none : goal.returns-clause-none
returns-clause-none g c =
    means_none (deck_in c.args.library.now c.args.deck.now) c.args.text.now c.in_ok-words.words c.deck_words.result c.deck_words.new.deck
    c.in_ok-words.ensures.found
    (rw c.new.ensures at c.deck_words.ensures.means)

pub returns-clause-refused : goal.returns-clause-refused
returns-clause-refused g c = refused_words c.deck_words.result c.args.text.now c.deck_words.ensures.number
