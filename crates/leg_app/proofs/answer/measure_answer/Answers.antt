use Rattle.std.proofs.Common.{inl, inr, refl, w64, SFits, rules}
use Rattle.std.proofs.lemmas.Int.{to_z-of_z}
use Rattle.leg_app.proofs.answer.measure_answer.Goals as goal

pub returns : goal.returns
returns g c profile lefs def say =
    let length = c.hpwl-length.result in
    let fits : SFits w64 length = search rules in
    record {
      answer =
          inr (inl (record {
            measures = refl;
            library = c.args.design.now.library;
            design = c.args.design.now;
            length = length;
            say = say;
            measured = c.hpwl-length.ensures.is;
            is = rw (to_z-of_z w64 length fits) at c.in_ok-text.ensures;
          }));
      explains = tt;
    }
