use Rattle.std.proofs.lemmas.Bool.{false≢true}
use Rattle.leg_app.proofs.AnswerLemmas.{much_is_why}
use Rattle.leg_app.proofs.check.check_texts_as.Goals as goal

pub returns-in-Err-2-clause-many : goal.returns-in-Err-2-clause-many
returns-in-Err-2-clause-many g c = λ many known.
    much_is_why c.in-Err.fault (λ much none. none much.library much.design much.say)
    (λ out. false≢true (c.if-is_out_of_memory.ensures.memory.1 out)) c.in-Err.ensures.refused many
