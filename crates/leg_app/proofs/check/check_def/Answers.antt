use Rattle.std.proofs.Common.{◌∙◌}
use Rattle.std.proofs.lemmas.Result.{IfOk-weaker, IfErr-weaker}
use Rattle.leg_app.proofs.Denotations.{say_under, no_design}
use Rattle.leg_app.proofs.check.check_def.Goals as goal

pub returns-in-Ok-clause-found : goal.returns-in-Ok-clause-found
returns-in-Ok-clause-found g c =
    let design = c.in-Ok.design in
    IfOk-weaker c.violations_of.result _ _
    (λ found list lefs just. record {
      library = design.library;
      design = design;
      say = say_under c.args.profile lefs c.args.def c.args.library.now design just c.in-Ok.ensures.found;
      all = list;
    })
    c.violations_of.ensures.found

pub returns-in-Ok-clause-refused : goal.returns-in-Ok-clause-refused
returns-in-Ok-clause-refused g c =
    IfErr-weaker c.violations_of.result _ _
    (λ fault refused lefs just. refused c.args.profile lefs c.args.def
    (say_under c.args.profile lefs c.args.def c.args.library.now c.in-Ok.design just c.in-Ok.ensures.found))
    c.violations_of.ensures.refused

pub returns-in-Err-clause-refused : goal.returns-in-Err-clause-refused
returns-in-Err-clause-refused g c =
    λ lefs just not_memory. no_design c.args.profile lefs c.args.def c.args.library.now just
    (c.in-Err.ensures.none (λ is. not_memory (c.behind_lefs.ensures.kind ∙ is)))
