use Rattle.std.proofs.Common.{refl}
use Rattle.std.proofs.lemmas.Result.{IfOk-weaker}
use Rattle.leg_app.proofs.Comparisons.{say_design}
use Rattle.leg_app.proofs.compare.other_library.Goals as goal

pub returns-in-Ok : goal.returns-in-Ok
returns-in-Ok g c =
    let other = c.args.other.now in
    IfOk-weaker c.units_differ.result _ _
    (λ answer all lefs before library first say apart just. all c.args.profile lefs before c.args.after
    (record {
      library = library;
      other = other;
      first = first;
      second = _;
      say_first = say;
      say_second = say_design c.args.profile lefs c.args.after other _ just
          c.in-Ok.ensures.found;
      apart = apart;
      is = refl;
    }))
    c.units_differ.ensures

pub returns-in-Err : goal.returns-in-Err
returns-in-Err g c =
    IfOk-weaker c.unread.result _ _ (λ answer all lefs before library first say apart just.
    all c.args.profile lefs before c.args.after just c.in-Err.ensures.none) c.unread.ensures
