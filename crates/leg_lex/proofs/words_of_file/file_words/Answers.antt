use Rattle.std.proofs.Common.{Err, ap, arith}
use Rattle.leg_lex.proofs.words_of_file.file_words.Goals as goal

pub returns-in-Err-clause-none : goal.returns-in-Err-clause-none
returns-in-Err-clause-none g c = λ not_memory words fits tokens.
    c.in-Err.ensures.unclosed
    (λ e. let long = c.in-Err.ensures.too_long.0 (ap Err e) in omega (arith, long))
    (λ e. not_memory (c.of_text.ensures.1 e)) words tokens
