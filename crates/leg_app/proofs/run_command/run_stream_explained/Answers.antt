use Rattle.std.proofs.Common.{inr, refl}
use Rattle.std.proofs.lemmas.Result.{err_from_is_err_and}
use Rattle.leg_app.specs.declared.status.Status.TheVariants.{Refused}
use Rattle.leg_output.specs.Commands.Check.{no_library_text}
use Rattle.leg_app.proofs.AnswerLemmas.{no_library_is}
use Rattle.leg_app.proofs.run_command.run_stream_explained.Goals as goal

pub returns-in_err-write_text-clause-cut : goal.returns-in_err-write_text-clause-cut
returns-in_err-write_text-clause-cut g c =
    let err = err_from_is_err_and c.from_residual.result c.from_residual.ensures.1 in
    rw err.1 (record {
      status = Refused;
      text = no_library_text;
      answer = inr (record { none = c.in_default.ensures.none; refused = refl; is = refl });
      front = rw no_library_is c.in_err-write_text.ensures.cut;
    })

pub returns-in_default-clause-whole : goal.returns-in_default-clause-whole
returns-in_default-clause-whole g c = record {
  text = no_library_text;
  answer = record { answer = inr (record { none = c.in_default.ensures.none; refused = refl; is = refl }); explains = (tt, refl, c.in_default.ensures.none) };
  appends = rw no_library_is c.in_ok-write_text.ensures.whole;
}
