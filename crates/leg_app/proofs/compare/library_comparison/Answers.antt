use Rattle.std.proofs.Common.{map}
use Rattle.std.proofs.lemmas.Result.{IfOk-weaker}
use Rattle.leg_app.proofs.Comparisons.{library_of}
use Rattle.leg_app.proofs.compare.library_comparison.Goals as goal

pub design_comparison-requires : goal.design_comparison-requires
design_comparison-requires g c = library_of c.args.profile c.args.library.now c.args.before c.in-Ok.first c.in-Ok.ensures.found

pub returns-in-Ok : goal.returns-in-Ok
returns-in-Ok g c =
    IfOk-weaker c.design_comparison.result _ _ (λ answer all just. all c.args.before just c.in-Ok.ensures.found) c.design_comparison.ensures

pub returns-in-Err : goal.returns-in-Err
returns-in-Err g c =
    let profile = c.args.profile in
    let lefs = map (λ t. t.now) c.args.lefs.now in
    IfOk-weaker c.unread.result _ _ (λ answer all just. all profile lefs c.args.before c.args.after.now just c.in-Err.ensures.none) c.unread.ensures
