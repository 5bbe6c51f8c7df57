use Rattle.std.proofs.lemmas.Result.{err_from_is_err_and}
use Rattle.leg_grammar.specs.Lef.Form.{lef_in}
use Rattle.leg_lex.proofs.Denotations.{says_nothing, means_only, means_none}
use Rattle.leg_lib.proofs.read.add_lef.Goals as goal

pub returns-in_err-words-clause-none : goal.returns-in_err-words-clause-none
returns-in_err-words-clause-none g c =
    let p = err_from_is_err_and c.from_residual.result c.from_residual.ensures.1 in
    rw (p.1, p.2) (λ not_memory. says_nothing (lef_in c.args.parts.now) c.args.text.now (c.in_err-words.ensures.none not_memory))

pub returns-clause-only : goal.returns-clause-only
returns-clause-only g c =
    means_only (lef_in c.args.parts.now) c.args.text.now c.in_ok-words.words c.lef_words.result c.lef_words.new.parts c.in_ok-words.ensures.found
    (rw c.new.ensures at c.lef_words.ensures)

pub returns-clause-none : goal.returns-clause-none
returns-clause-none g c =
    means_none (lef_in c.args.parts.now) c.args.text.now c.in_ok-words.words c.lef_words.result c.lef_words.new.parts c.in_ok-words.ensures.found
    (rw c.new.ensures at c.lef_words.ensures)
